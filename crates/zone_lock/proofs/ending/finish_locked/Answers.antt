use Rattle.std.proofs.Common.{◌≡◌, [], None, refl, subst, sym}
use Rattle.books.specs.Chapters.{base_or}
use Rattle.zone_lock.specs.Held.{Held}
use Rattle.zone_lock.proofs.Histories.{cut_so}
use Rattle.zone_lock.proofs.Rests.{is_left, left_of, rest_of, same_left, whole_of}
use Rattle.zone_lock.proofs.ending.finish_locked.Goals as goal

pub new-requires : goal.new-requires
new-requires g c =
    let l = c.first.inside in
    let h = cut_so l.first l.carried l.base l.is_recorded l.entries.items l.zone in
    let none = subst (λ (x : Held). x.base ≡ None → x.entries ≡ []) (sym c.first.view_is)
    c.settled.ensures.begun in
    (rest_of g.D.Hall.opened h (left_of h (base_or l.base l.zone.state)) c.first.invariant.0.kept
    none
    refl
    refl refl refl refl).run

pub returns-clause-history : goal.returns-clause-history
returns-clause-history g c =
    let l = c.first.inside in
    whole_of g.D.Hall.opened (cut_so l.first l.carried l.base l.is_recorded l.entries.items l.zone) c.new.result
    c.first.invariant.0.kept c.new.ensures.entries c.new.ensures.zone c.new.ensures.first
    c.new.ensures.carried

pub returns-clause-run : goal.returns-clause-run
returns-clause-run g c =
    let l = c.first.inside in
    let h = cut_so l.first l.carried l.base l.is_recorded l.entries.items l.zone in
    let none = subst (λ (x : Held). x.base ≡ None → x.entries ≡ []) (sym c.first.view_is)
    c.settled.ensures.begun in
    (rest_of g.D.Hall.opened h c.new.result c.first.invariant.0.kept none c.new.ensures.zone
    c.new.ensures.base c.new.ensures.entries c.new.ensures.first c.new.ensures.carried).run

pub returns-clause-opened : goal.returns-clause-opened
returns-clause-opened g c =
    let l = c.first.inside in
    let h = cut_so l.first l.carried l.base l.is_recorded l.entries.items l.zone in
    let none = subst (λ (x : Held). x.base ≡ None → x.entries ≡ []) (sym c.first.view_is)
    c.settled.ensures.begun in
    (rest_of g.D.Hall.opened h c.new.result c.first.invariant.0.kept none c.new.ensures.zone
    c.new.ensures.base c.new.ensures.entries c.new.ensures.first c.new.ensures.carried).opened_at

pub returns-clause-in_use : goal.returns-clause-in_use
returns-clause-in_use g c =
    let l = c.first.inside in
    let h = cut_so l.first l.carried l.base l.is_recorded l.entries.items l.zone in
    let none = subst (λ (x : Held). x.base ≡ None → x.entries ≡ []) (sym c.first.view_is)
    c.settled.ensures.begun in
    (rest_of g.D.Hall.opened h c.new.result c.first.invariant.0.kept none c.new.ensures.zone
    c.new.ensures.base c.new.ensures.entries c.new.ensures.first c.new.ensures.carried).in_use

pub returns-clause-settings : goal.returns-clause-settings
returns-clause-settings g c =
    let l = c.first.inside in
    let h = cut_so l.first l.carried l.base l.is_recorded l.entries.items l.zone in
    let none = subst (λ (x : Held). x.base ≡ None → x.entries ≡ []) (sym c.first.view_is)
    c.settled.ensures.begun in
    (rest_of g.D.Hall.opened h c.new.result c.first.invariant.0.kept none c.new.ensures.zone
    c.new.ensures.base c.new.ensures.entries c.new.ensures.first c.new.ensures.carried).settings

pub returns-clause-left : goal.returns-clause-left
returns-clause-left g c =
    let l = c.first.inside in
    let h = cut_so l.first l.carried l.base l.is_recorded l.entries.items l.zone in
    let is = subst (λ (x : Held). c.new.result ≡ left_of x (base_or x.base x.zone.state))
    c.first.view_is
    (same_left c.new.result h (base_or l.base l.zone.state) c.new.ensures.zone c.new.ensures.base
    c.new.ensures.entries c.new.ensures.first c.new.ensures.carried) in
    is_left c.args.locked c.settled.result c.new.result is c.args.locked.base refl
    c.settled.ensures.left c.settled.ensures.let_go c.settled.ensures.begun c.settled.ensures.zone
