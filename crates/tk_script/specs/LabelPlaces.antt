-- What the map beside the labels of a body holds.
use Rattle.std.specs.Prelude.{◌≡◌, ℕ, Bool, true, false, List, Option, Some, None, Vec, position}
use Rattle.std.specs.Global.{Global}
use Rattle.std.specs.HashMap.{HashMap, get_by}
use Rattle.std.specs.Str.{bytes_eq}
use Rattle.tk_types.specs.declared.script.Label.{Label}
use Rattle.tk_script.specs.declared.labels.Labels.TheInside.{Inside}

-- the place that a map holds for a name
abbrev pub place_in : {S : Type 0} → HashMap (Vec ℕ Global) ℕ S → List ℕ → Option ℕ
place_in places word = get_by (λ name. bytes_eq word name.items) places

-- a map holds the place of the first label of each name
abbrev pub ArePlaces : {S : Type 0} → HashMap (Vec ℕ Global) ℕ S → List Label → Type 0
ArePlaces places labels = (word : List ℕ) → place_in places word ≡ position (λ (label : Label). bytes_eq label.name word) labels

abbrev pub HoldsPlaces : Inside → Type 0
HoldsPlaces labels = ArePlaces labels.places labels.labels

-- what was there, or else a place where it is the one of the new name
abbrev pub first_or : Option ℕ → Bool → ℕ → Option ℕ
first_or (Some known) here place = Some known
first_or None true place = Some place
first_or None false place = None

-- a map takes one more name, unless it has it
abbrev pub TakesName : {S : Type 0} → HashMap (Vec ℕ Global) ℕ S → List ℕ → ℕ → HashMap (Vec ℕ Global) ℕ S → Type 0
TakesName places name place grown = (word : List ℕ) → place_in grown word ≡ first_or (place_in places word) (bytes_eq name word) place
