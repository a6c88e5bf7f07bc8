use Rattle.std.proofs.Common.{drop}
use Rattle.book_audit.proofs.Leading.{IsLeft}
use Rattle.book_audit.proofs.joined.do_lead.Given as goal

-- the chapters so far lead to the place and the state, and what is left of them leads on
abbrev pub invariant-loop-chapter : goal.invariant-loop-chapter
invariant-loop-chapter l =
    IsLeft l.start l.chapters l.place l.state (drop l.chapter-index l.chapters)
