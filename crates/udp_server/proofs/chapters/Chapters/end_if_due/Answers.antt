use Rattle.std.proofs.Common.{List, arith, inl, inr, rules, subst}
use Rattle.std.proofs.lemmas.Grind.{common_steps}
use Rattle.books.specs.Chapters.{ChapterValue}
use Rattle.udp_server.specs.LatestChapters.{IsKeptBehind}
use Rattle.udp_server.proofs.chapters.Chapters.end_if_due.Goals as goal

pub returns-clause-latest : goal.returns-clause-latest
returns-clause-latest g c =
    inr (
      c.in-Ok.chapter,
      c.in-Ok.ensures.chapter,
      subst (λ (old : List ChapterValue). IsKeptBehind c.args.shared.now.plan.latest c.in-Ok.chapter old
          c.keep.new.self.latest.items) c.make_room.ensures.same c.keep.ensures.latest,
    )

pub returns-clause-ended : goal.returns-clause-ended
returns-clause-ended g c =
    inr (
      c.is_due.ensures.due (search rules),
      inl (
        grind (arith, common_steps),
        record {
          chapter = c.in-Ok.chapter;
          cut = c.in-Ok.ensures.chapter;
          kept = subst (λ (old : List ChapterValue).
              IsKeptBehind c.args.shared.now.plan.latest c.in-Ok.chapter old
              c.keep.new.self.latest.items) c.make_room.ensures.same c.keep.ensures.latest;
          first = c.keep.ensures.first;
        },
      ),
    )
