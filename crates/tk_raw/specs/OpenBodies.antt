-- What the set of names beside the body that isn't at its end holds.
use Rattle.std.specs.Prelude.{◌≡◌, ℕ, List, Vec}
use Rattle.std.specs.Global.{Global}
use Rattle.std.specs.Str.{bytes_eq}
use Rattle.std.specs.HashSet.{HashSet, contains_by}
use Rattle.tk_raw.specs.declared.raw.RawItem.{RawItem}
use Rattle.tk_raw.specs.RawReading.{label_taken}
use Rattle.tk_raw.specs.declared.open_body.OpenBody.TheInside.{Inside}

-- a word is in the set exactly where it is the name of a label among the lines
abbrev pub AreLabels : {S : Type 0} → HashSet (Vec ℕ Global) S → List RawItem → Type 0
AreLabels labels lines = (word : List ℕ) → contains_by (λ name. bytes_eq word name.items) labels ≡ label_taken lines word

-- the set holds the names of the labels of the body
abbrev pub HoldsLabels : Inside → Type 0
HoldsLabels open_body = AreLabels open_body.labels open_body.body.items
