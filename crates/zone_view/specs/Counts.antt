-- Counts, by what is counted.
use Rattle.std.specs.Prelude.{◌+◌, ◌-◌, ◌^◌, ℕ, List, [], ◌∷◌, Option, None, Some, min, replicate}
use Rattle.std.specs.Prelude.{get_or, set}
use Rattle.zone_view.specs.Kinds.{count_place}
use Rattle.zone_view.specs.StepCounts.{each_of}
use Rattle.zone_view.specs.declared.count.Count.{Count}
use Rattle.zone_view.specs.declared.step_counts.StepCounts.{StepCounts}

-- nothing came yet
abbrev pub no_counts : List ℕ
no_counts = replicate 55 0

-- how often this came
abbrev pub count_at : Count → List ℕ → ℕ
count_at count numbers = get_or numbers (count_place count) 0

-- this is added at this place, if there is one; a count that is as high as it can be stays there
abbrev pub with_more_at : ℕ → ℕ → List ℕ → List ℕ
with_more_at place more numbers =
    set numbers place (min (get_or numbers place 0 + more) (2 ^ 64 - 1))

-- this is added to a count
abbrev pub with_more : Count → ℕ → List ℕ → List ℕ
with_more count more numbers = with_more_at (count_place count) more numbers

-- it came once more, if it is there
abbrev pub with_one : Option Count → List ℕ → List ℕ
with_one None numbers = numbers
with_one (Some count) numbers = with_more count 1 numbers

-- each of these that is there came once more
abbrev pub with_each : List (Option Count) → List ℕ → List ℕ
with_each [] numbers = numbers
with_each (one ∷ others) numbers = with_each others (with_one one numbers)

-- what is counted of a step came once more
abbrev pub with_step : StepCounts → List ℕ → List ℕ
with_step step numbers = with_each (each_of step) numbers
