-- Pools that are read one after the other.
use Rattle.std.proofs.Common.{◌≡◌, ◌+◌, ◌-◌, ◌<◌, ◌≤◌, ℕ, suc, List, [], ◌∷◌, ◌++◌}
use Rattle.std.proofs.Common.{length, get_or, drop, refl, Result, Ok, Err, append_assoc}
use Rattle.std.proofs.Common.{append-nil, arith}
use Rattle.std.proofs.Math.ListN.{drop_of_length-le}
use Rattle.toml.specs.declared.value.Value.{Value}
use Rattle.toml.specs.View.{items_view, view}
use Rattle.toml.proofs.Views.{items_view-drop}
use Rattle.settings.specs.declared.fault.Refusal.{Refusal}
use Rattle.settings.specs.declared.fault.Refusal.TheVariants.{OutOfRange}
use Rattle.settings.specs.declared.setting_key.SettingKey.TheVariants.{Pools}
use Rattle.settings.specs.Pools.{pool_of, pools_from}
use Rattle.settings.specs.Ranges.{PoolEntry}
use Rattle.settings.specs.Values.{◌>>=◌}

-- these pools, and then those, unless one of those is refused
abbrev pub behind : List PoolEntry → Result (List PoolEntry) Refusal
    → Result (List PoolEntry) Refusal
behind pools (Ok rest) = Ok (pools ++ rest)
behind pools (Err refusal) = Err refusal

-- one more pool in front of the others is one more behind those before
moved : (pools : List PoolEntry) (pool : PoolEntry) (rest : Result (List PoolEntry) Refusal)
    → behind pools (rest >>= (λ rest. Ok (pool ∷ rest))) ≡ behind (pools ++ pool ∷ []) rest
moved pools pool (Ok rest) = rw (append_assoc pools (pool ∷ []) rest)
moved pools pool (Err refusal) = refl

next_pool : (values : List Value) (i room : ℕ) (d : Value) → i < length values
    → pools_from (items_view (drop i values)) (suc room)
    ≡ (pool_of (view (get_or values i d))
    >>= (λ pool. pools_from (items_view (drop (i + 1) values)) room
    >>= (λ pools. Ok (pool ∷ pools))))
unfolding pools_from
next_pool values i room d below = rw (items_view-drop values i d below)

pub read_pool : (values : List Value) (i : ℕ) (d : Value) (pools : List PoolEntry)
    (pool : PoolEntry) → i < length values → i < 16 → pool_of (view (get_or values i d)) ≡ Ok pool
    → behind pools (pools_from (items_view (drop i values)) (16 - i))
    ≡ behind (pools ++ pool ∷ []) (pools_from (items_view (drop (i + 1) values)) (16 - (i + 1)))
read_pool values i d pools pool below few is =
    let room : 16 - i ≡ suc (16 - (i + 1)) = omega arith in
    rw (room, next_pool values i (16 - (i + 1)) d below, is)
    (moved pools pool (pools_from (items_view (drop (i + 1) values)) (16 - (i + 1))))

pub refused_pool : (values : List Value) (i : ℕ) (d : Value) (pools : List PoolEntry)
    (refusal : Refusal) → i < length values → i < 16
    → pool_of (view (get_or values i d)) ≡ Err refusal
    → behind pools (pools_from (items_view (drop i values)) (16 - i)) ≡ Err refusal
refused_pool values i d pools refusal below few is =
    let room : 16 - i ≡ suc (16 - (i + 1)) = omega arith in
    rw (room, next_pool values i (16 - (i + 1)) d below, is)

no_room : (values : List Value) (i : ℕ) (d : Value) → i < length values
    → pools_from (items_view (drop i values)) 0 ≡ Err (OutOfRange Pools)
unfolding pools_from
no_room values i d below = rw (items_view-drop values i d below)

pub one_too_many : (values : List Value) (i : ℕ) (d : Value) (pools : List PoolEntry)
    → i < length values → i ≡ 16
    → behind pools (pools_from (items_view (drop i values)) (16 - i)) ≡ Err (OutOfRange Pools)
one_too_many values i d pools below full =
    let room : 16 - i ≡ 0 = omega arith in
    rw (room, no_room values i d below)

pub no_pool_left : (values : List Value) (i room : ℕ) (pools : List PoolEntry)
    → length values ≤ i
    → behind pools (pools_from (items_view (drop i values)) room) ≡ Ok pools
unfolding pools_from
no_pool_left values i room pools over = rw (drop_of_length-le values over, append-nil pools)
