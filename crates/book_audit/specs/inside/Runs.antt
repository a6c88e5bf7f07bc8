-- What the type of each chapter keeps.
use Rattle.std.specs.Prelude.{List, [], ◌∷◌}
use Rattle.books.specs.Books.{BookRun}
use Rattle.books.specs.Chapters.{ChapterValue}

-- the entries of each chapter lead from the state in which it begins to that in which it ends
abbrev pub AreRuns : List ChapterValue → Type 0
AreRuns [] = Unit {0}
AreRuns (chapter ∷ chapters) =
    BookRun chapter.base chapter.entries chapter.end × AreRuns chapters
