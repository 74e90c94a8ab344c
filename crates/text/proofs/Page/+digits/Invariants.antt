-- `text::Page::digits` meets its contract: each return is one case of `digits_of`. The measure is the count of places. Assumes nothing.
use Rattle.text.proofs.Page.+digits.Given as goal

abbrev pub decreases-digits : goal.decreases-digits
decreases-digits l = l.places
