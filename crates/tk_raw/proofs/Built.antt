-- What was read so far, as lines, and what it is: the lines that were read, in order.
use Rattle.std.proofs.Common.{◌≡◌, ◌∙◌, refl, ap, ℕ, ◌≤◌, true, List, [], ◌∷◌, ◌++◌, length, append_assoc, map, Option, Some, None}
use Rattle.std.specs.Prelude.{codes, decimal, flat_map, IfSome}
use Rattle.std.specs.List.{AllByRecursion}
use Rattle.std.proofs.lemmas.List.{append-nil}
use Rattle.std.proofs.lemmas.List.Concat.{flat_map-append}
use Rattle.tk_types.specs.declared.script.Device.{Device}
use Rattle.tk_types.specs.declared.script.Interrupt.{Interrupt}
use Rattle.tk_model.specs.ScriptText.{device_words, pace_lines, irq_words, body_kind_word, all_differ, IsBetween, IsDevice, StepsRise}
use Rattle.tk_raw.specs.declared.builder.Builder.{Builder}
use Rattle.tk_raw.specs.declared.raw.RawBody.{RawBody}
use Rattle.tk_raw.specs.declared.raw.RawBoot.{RawBoot}
use Rattle.tk_raw.specs.declared.raw.RawItem.{RawItem}
use Rattle.tk_raw.specs.RawText.{raw_item_words, open_body_lines, raw_body_lines, raw_boot_words, device_names, body_names, IsRawBody}
use Rattle.tk_raw.specs.RawReading.{with_item}
use Rattle.tk_raw.proofs.HeaderLaws.{IsBoot}
use Rattle.tk_raw.proofs.Differing.{map_behind}

abbrev pub Line : Type 0
Line = List (List ℕ)

abbrev pub boot_lines : Option RawBoot → List Line
boot_lines None = []
boot_lines (Some boot) = raw_boot_words boot ∷ []

abbrev pub current_lines : Option RawBody → List Line
current_lines None = []
current_lines (Some body) = open_body_lines body

abbrev pub current_names : Option RawBody → List (List ℕ)
current_names None = []
current_names (Some body) = body.name ∷ []

-- what was read so far, by its parts
abbrev pub made : List Device → Option ℕ → List Interrupt → Option RawBoot → List RawBody → Option RawBody → Builder
made devices pace irqs boot bodies current = record { devices = devices; pace = pace; irqs = irqs; boot = boot; bodies = bodies; current = current }

abbrev pub opened : Builder → RawBody → Builder
opened builder body = record builder { current = Some body }

-- the lines of what was read so far
abbrev pub built_lines : Builder → List Line
built_lines b =
    map device_words b.devices ++ (pace_lines b.pace ++ (map irq_words b.irqs ++ (boot_lines b.boot
    ++ (flat_map raw_body_lines b.bodies ++ current_lines b.current))))

abbrev pub built_names : Builder → List (List ℕ)
built_names b = body_names b.bodies ++ current_names b.current

-- no body stands before the boot line
abbrev pub InOrder : Option RawBoot → List RawBody → Option RawBody → Type 0
InOrder None bodies current = (bodies ≡ []) × (current ≡ None)
InOrder (Some boot) bodies current = Unit {0}

pub record IsBuilt (b : Builder) : Type 0 where
  pub few_devices : length b.devices ≤ 8
  pub devices : AllByRecursion IsDevice b.devices
  pub devices_differ : all_differ (device_names b.devices) ≡ true
  pub pace : IfSome b.pace (IsBetween 1 1000000)
  pub few_irqs : length b.irqs ≤ 1024
  pub irqs : StepsRise 1 b.irqs
  pub boot : IfSome b.boot IsBoot
  pub few_bodies : length (built_names b) ≤ 255
  pub bodies_differ : all_differ (built_names b) ≡ true
  pub bodies : AllByRecursion IsRawBody b.bodies
  pub current : IfSome b.current IsRawBody
  pub order : InOrder b.boot b.bodies b.current

-- one line more, where it stands
pub device_grows : (b : Builder) (d : Device) → b.pace ≡ None → b.irqs ≡ [] → b.boot ≡ None → b.bodies ≡ [] → b.current ≡ None → built_lines (record b { devices = b.devices ++ d ∷ [] }) ≡ built_lines b ++ device_words d ∷ []
device_grows b d no_pace no_irqs no_boot no_bodies no_current =
    rw (no_pace, no_irqs, no_boot, no_bodies, no_current, append-nil (map device_words (b.devices ++ d ∷ [])), append-nil (map device_words b.devices)) (map_behind device_words b.devices d)

pub pace_grows : (b : Builder) (pace : ℕ) → b.pace ≡ None → b.irqs ≡ [] → b.boot ≡ None → b.bodies ≡ [] → b.current ≡ None → built_lines (record b { pace = Some pace }) ≡ built_lines b ++ (codes "pace" ∷ decimal pace ∷ []) ∷ []
pace_grows b pace no_pace no_irqs no_boot no_bodies no_current =
    rw (no_pace, no_irqs, no_boot, no_bodies, no_current, append-nil (map device_words b.devices)) refl

third : (a p i x : List Line) → a ++ (p ++ (i ++ x)) ≡ (a ++ (p ++ i)) ++ x
third a p i x = simp append_assoc

pub irq_grows : (b : Builder) (irq : Interrupt) → b.boot ≡ None → b.bodies ≡ [] → b.current ≡ None → built_lines (record b { irqs = b.irqs ++ irq ∷ [] }) ≡ built_lines b ++ irq_words irq ∷ []
irq_grows b irq no_boot no_bodies no_current =
    rw (no_boot, no_bodies, no_current, append-nil (map irq_words (b.irqs ++ irq ∷ [])), append-nil (map irq_words b.irqs), map_behind irq_words b.irqs irq) (third (map device_words b.devices) (pace_lines b.pace) (map irq_words b.irqs) (irq_words irq ∷ []))

pub boot_grows : (b : Builder) (boot : RawBoot) → b.boot ≡ None → b.bodies ≡ [] → b.current ≡ None → built_lines (record b { boot = Some boot }) ≡ built_lines b ++ raw_boot_words boot ∷ []
boot_grows b boot no_boot no_bodies no_current =
    rw (no_boot, no_bodies, no_current, append-nil (map irq_words b.irqs)) (third (map device_words b.devices) (pace_lines b.pace) (map irq_words b.irqs) (raw_boot_words boot ∷ []))

-- behind all that was read
at_last : (a p i b c d x : List Line) → a ++ (p ++ (i ++ (b ++ (c ++ (d ++ x))))) ≡ (a ++ (p ++ (i ++ (b ++ (c ++ d))))) ++ x
at_last a p i b c d x = simp append_assoc

pub current_grows : (b : Builder) (before after : Option RawBody) (line : Line) → current_lines after ≡ current_lines before ++ line ∷ [] → built_lines (record b { current = after }) ≡ built_lines (record b { current = before }) ++ line ∷ []
current_grows b before after line grown =
    ap (λ (ls : List Line). map device_words b.devices ++ (pace_lines b.pace ++ (map irq_words b.irqs ++ (boot_lines b.boot ++ (flat_map raw_body_lines b.bodies ++ ls))))) grown
    ∙ at_last (map device_words b.devices) (pace_lines b.pace) (map irq_words b.irqs) (boot_lines b.boot) (flat_map raw_body_lines b.bodies) (current_lines before) (line ∷ [])

pub item_grows : (body : RawBody) (item : RawItem) → open_body_lines (with_item body item) ≡ open_body_lines body ++ raw_item_words item ∷ []
unfolding open_body_lines
item_grows body item = ap (λ (ls : List Line). (codes "body" ∷ body.name ∷ body_kind_word body.kind ∷ []) ∷ ls) (map_behind raw_item_words body.items item)

body_closed : (bodies : List RawBody) (body : RawBody) → flat_map raw_body_lines (bodies ++ body ∷ []) ++ [] ≡ flat_map raw_body_lines bodies ++ (open_body_lines body ++ (codes "end" ∷ []) ∷ [])
unfolding raw_body_lines
body_closed bodies body = rw (flat_map-append raw_body_lines bodies (body ∷ [])) (simp append-nil)

pub end_grows : (b : Builder) (body : RawBody) → built_lines (record b { bodies = b.bodies ++ body ∷ []; current = None }) ≡ built_lines (opened b body) ++ (codes "end" ∷ []) ∷ []
end_grows b body =
    ap (λ (ls : List Line). map device_words b.devices ++ (pace_lines b.pace ++ (map irq_words b.irqs ++ (boot_lines b.boot ++ ls)))) (body_closed b.bodies body)
    ∙ at_last (map device_words b.devices) (pace_lines b.pace) (map irq_words b.irqs) (boot_lines b.boot) (flat_map raw_body_lines b.bodies) (open_body_lines body) ((codes "end" ∷ []) ∷ [])
