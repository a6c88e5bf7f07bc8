-- The steps of a whole history are fewer than 2^64.
use Rattle.std.proofs.Common.{◌≡◌, ◌≤◌, ◌<◌, ◌+◌, ◌^◌, List, length, arith, ap}
use Rattle.books.specs.declared.book.Entry.{Entry}
use Rattle.books.specs.declared.totals.Totals.{Totals}
use Rattle.books.specs.Chapters.{FinishedValue}
use Rattle.books.specs.Totals.{changes_of, datagrams_of, no_totals, totals_with, turns_of}
use Rattle.zone_lock.proofs.Counted.{all_counted}

pub few_counted : (f : FinishedValue) (carried since : Totals) (es : List Entry)
    → f.carried.datagrams + f.carried.turns + f.carried.changes ≡ f.first
    → f.first + length f.entries ≤ 2 ^ 62
    → carried ≡ f.carried → es ≡ f.entries → since ≡ totals_with no_totals es 0
    → (carried.datagrams + since.datagrams < 2 ^ 64) × (carried.turns + since.turns < 2 ^ 64)
    × (carried.changes + since.changes < 2 ^ 64)
few_counted f carried since es first few same all is =
    let d : carried.datagrams ≡ f.carried.datagrams = ap (λ (t : Totals). t.datagrams) same in
    let t : carried.turns ≡ f.carried.turns = ap (λ (t : Totals). t.turns) same in
    let ds : since.datagrams ≡ 0 + datagrams_of es = ap (λ (t : Totals). t.datagrams) is in
    let ts : since.turns ≡ 0 + turns_of es = ap (λ (t : Totals). t.turns) is in
    let c : carried.changes ≡ f.carried.changes = ap (λ (t : Totals). t.changes) same in
    let cs : since.changes ≡ 0 + changes_of es = ap (λ (t : Totals). t.changes) is in
    let n : length es ≡ length f.entries = ap (λ (e : List Entry). length e) all in
    let every = all_counted es in (
      omega (arith, first, few, d, t, ds, ts, n, every),
      omega (
        arith,
        first,
        few,
        d,
        t,
        ds,
        ts,
        n,
        every,
      ),
      omega (arith, first, few, c, cs, n, every),
    )
