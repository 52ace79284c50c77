-- A word spells one number at most.
use Rattle.std.proofs.Common.{◌≡◌, ℕ, ◌<◌, ◌^◌, List, Some, ap, ◌∙◌}
use Rattle.std.specs.Fmt.{decimal}
use Rattle.tk_model.specs.Decimals.{natural_at}
use Rattle.tk_text.proofs.Decimals.{natural_at_again}

-- the number that was read is the one that the word spells
pub same_number : (word : List ℕ) (number n : ℕ) → Some number ≡ natural_at word → n < 2 ^ 64 → word ≡ decimal n → number ≡ n
same_number word number n read fits spelt =
    let e : Some number ≡ Some n = read ∙ (ap natural_at spelt ∙ natural_at_again n fits) in cc
