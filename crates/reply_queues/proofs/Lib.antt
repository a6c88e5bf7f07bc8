mod NewRings
