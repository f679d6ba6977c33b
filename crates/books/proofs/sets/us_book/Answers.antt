use Rattle.books.proofs.sets.us_book.Goals as goal

pub returns : goal.returns
returns c = λ i. record { own = c.new.ensures i; below = record { own = c.new-2.ensures i; below = c.new-3.ensures i } }
