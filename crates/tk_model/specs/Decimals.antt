-- Numbers as words: the one decimal text of each.
use Rattle.std.specs.Prelude.{ℕ, ℤ, pos, negsuc, ◌^◌, Bool, nat_lt, ◌&&◌, List, Option, Some, None, if◌then◌else◌}
use Rattle.std.specs.Fmt.{decimal, signed_decimal}
use Rattle.std.specs.Str.{bytes_eq}
use Rattle.std.specs.Str.Parse.{digits_value, signed_digits_value}

-- whether a number fits 32 bits with a sign
unfoldable pub fits_i32 : ℤ → Bool
fits_i32 (pos n) = nat_lt n (2 ^ 31)
fits_i32 (negsuc n) = nat_lt n (2 ^ 31)

-- the number of 32 bits whose text a word is
unfoldable pub number_at : List ℕ → Option ℤ
number_at word =
    let z = signed_digits_value 10 word in (if bytes_eq (signed_decimal z) word && fits_i32 z then Some z else None)

-- the number of 64 bits without a sign whose text a word is
unfoldable pub natural_at : List ℕ → Option ℕ
natural_at word =
    let n = digits_value 10 word in (if bytes_eq (decimal n) word && nat_lt n (2 ^ 64) then Some n else None)
