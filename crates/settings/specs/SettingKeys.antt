-- The tables and keys of the settings, by which a fault is told.
use Rattle.std.specs.Prelude.{ℕ, List, [], ◌∷◌, ◌++◌, codes, map}
use Rattle.zone_config.specs.Keys as zone
use Rattle.settings.specs.ServeKeys as serve
use Rattle.settings.specs.declared.setting_key.SettingKey.{SettingKey}
use Rattle.settings.specs.declared.setting_key.SettingKey.TheVariants.{ZoneTable, Identifier}
use Rattle.settings.specs.declared.setting_key.SettingKey.TheVariants.{Address, Zone, ServeTable}
use Rattle.settings.specs.declared.setting_key.SettingKey.TheVariants.{Serve, Status, Pools, PoolKind}
use Rattle.settings.specs.declared.setting_key.SettingKey.TheVariants.{PoolLimit, PoolStep}
use Rattle.settings.specs.declared.setting_key.SettingKey.TheVariants.{PoolBurst, PoolNetwork}

-- its name among all settings
abbrev pub path_of : SettingKey → List ℕ
path_of ZoneTable = codes "zone"
path_of Identifier = codes "zone.identifier"
path_of Address = codes "zone.address"
path_of (Zone key) = zone.path_of key
path_of ServeTable = codes "serve"
path_of (Serve key) = serve.path_of key
path_of Status = codes "serve.status"
path_of Pools = codes "pool"
path_of PoolKind = codes "pool.kind"
path_of PoolLimit = codes "pool.limit"
path_of PoolStep = codes "pool.step"
path_of PoolBurst = codes "pool.burst"
path_of PoolNetwork = codes "pool.network"

-- the tables and keys that are known
abbrev pub known_keys : List SettingKey
known_keys =
    (ZoneTable ∷ Identifier ∷ Address ∷ []) ++ map (λ k. Zone k) zone.all_keys
    ++ ServeTable ∷ [] ++ map (λ k. Serve k) serve.all_serve_keys
    ++ (Status ∷ Pools ∷ PoolKind ∷ PoolLimit ∷ PoolStep ∷ PoolBurst ∷ PoolNetwork ∷ [])
