-- The journal of a run: the lines of a book, and their bytes (docs/SPECIFICATION.md, 8.4). Definitions only.
use Rattle.std.specs.Prelude.{ℕ, List, map}
use Rattle.journal.specs.declared.Line.{Line}
use Rattle.journal.specs.Line.{journal_bytes}
use Rattle.book.specs.Book.{Book, entries, line_of}

-- one line for each entry, in order
abbrev pub lines_of : Book → List Line
lines_of b = map line_of (entries b)

abbrev pub journal_of : Book → List ℕ
journal_of b = journal_bytes (lines_of b)
