-- `search_law` meets its contract. Assumes nothing.
use Rattle.book.proofs.Theorem.{search_is_book}
use Rattle.book.proofs.search_law.Goals as goal

pub returns : goal.returns
returns c = search_is_book
