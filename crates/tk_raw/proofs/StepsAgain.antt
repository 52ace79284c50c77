-- The lines of a script are read as that script.
use Rattle.std.proofs.Common.{◌≡◌, ◌∙◌, refl, sym, ap, subst, arith, ℕ, ◌<◌, ◌≤◌, true, false, List, [], ◌∷◌, ◌++◌, length, length-append, append_assoc, map, Option, Some, None, Result, Ok, Err}
use Rattle.std.specs.Prelude.{codes, decimal, IfSome, flat_map}
use Rattle.std.specs.List.{AllByRecursion}
use Rattle.std.proofs.lemmas.List.{append-nil}
use Rattle.std.proofs.lemmas.Bool.{lt-ltb}
use Rattle.tk_types.specs.declared.script.BodyKind.{BodyKind}
use Rattle.tk_types.specs.declared.script.Device.{Device}
use Rattle.tk_types.specs.declared.script.Interrupt.{Interrupt}
use Rattle.tk_types.specs.declared.why.Why.{Why}
use Rattle.tk_types.specs.declared.why.Why.TheVariants as whys
use Rattle.tk_model.specs.ScriptText.{device_words, unit_words, pace_lines, irq_words, body_kind_word, all_differ, IsBetween, IsName, IsDevice, StepsRise}
use Rattle.tk_raw.specs.declared.builder.Builder.{Builder}
use Rattle.tk_raw.specs.declared.raw.RawBody.{RawBody}
use Rattle.tk_raw.specs.declared.raw.RawBoot.{RawBoot}
use Rattle.tk_raw.specs.declared.raw.RawItem.{RawItem}
use Rattle.tk_raw.specs.declared.raw.RawItem.TheVariants as items
use Rattle.tk_raw.specs.declared.raw.RawScript.{RawScript}
use Rattle.tk_raw.specs.declared.raw.RawStmt.{RawStmt}
use Rattle.tk_raw.specs.Heads.{head_text, form_of_head}
use Rattle.tk_raw.specs.Pieces.{◌>>=◌}
use Rattle.tk_raw.specs.RawText.{raw_item_words, raw_stmt_words, open_body_lines, raw_body_lines, raw_boot_words, raw_lines, piece_words, device_names, body_names, label_names, FitsItem, IsRawBody, IsRaw}
use Rattle.tk_raw.specs.RawReading.{nothing, device_taken, body_taken, label_taken, takes_device, takes_pace, takes_irq, takes_boot, takes_body, device_line, pace_line, irq_line, boot_line, body_line, end_line, label_line, stmt_line, outside, inside, step}
use Rattle.tk_raw.proofs.Results.{fine}
use Rattle.tk_raw.proofs.Differing.{among, differ_before, steps_before, least_is_last, last_step, any_mapped}
use Rattle.tk_raw.proofs.HeadLaws.{head_is_not_end, head_is_not_label}
use Rattle.tk_raw.proofs.HeaderLaws.{device_again, pace_again, irq_again, IsBoot, boot_again, body_again, label_again}
use Rattle.tk_raw.proofs.StatementLaws.{statement_again}
use Rattle.tk_raw.proofs.StepTakes.{label_names_behind, taken_among}
use Rattle.tk_raw.proofs.Built.{Line, made}

-- one line after another
unfoldable pub steps : Builder → List Line → Result Builder Why
steps b [] = Ok b
steps b ([] ∷ lines) = Err whys.Order
steps b ((first ∷ words) ∷ lines) = step b first words >>= λ next. steps next lines

pub one_more : (b next : Builder) (first : List ℕ) (words : Line) (lines : List Line) → step b first words ≡ Ok next → steps b ((first ∷ words) ∷ lines) ≡ steps next lines
unfolding steps
one_more b next first words lines e = rw e refl

-- a front of names that differ
differ_front : (front back : List (List ℕ)) → all_differ (front ++ back) ≡ true → all_differ front ≡ true
differ_front front [] e = ap all_differ (sym (append-nil front)) ∙ e
differ_front front (name ∷ back) e = (differ_before front name (differ_front (front ++ name ∷ []) back (ap all_differ (append_assoc front (name ∷ []) back) ∙ e))).0

next_differs : (front back : List (List ℕ)) (name : List ℕ) → all_differ (front ++ name ∷ back) ≡ true → among front name ≡ false
next_differs front back name e = (differ_before front name (differ_front (front ++ name ∷ []) back (ap all_differ (append_assoc front (name ∷ []) back) ∙ e))).1

mapped_two : {X Y : Type 0} (f : X → Y) (xs ys : List X) → map f (xs ++ ys) ≡ map f xs ++ map f ys
mapped_two f [] ys = refl
mapped_two {X} {Y} f (x ∷ xs) ys = ap (λ (rest : List Y). f x ∷ rest) (mapped_two f xs ys)

room : {X : Type 0} (front : List X) (x : X) (back : List X) (most : ℕ) → length (front ++ x ∷ back) ≤ most → length front < most
room front x back most fits = omega (arith, length-append front (x ∷ back), fits)

device_step : (front : List Device) (d : Device) → length front < 8 → IsDevice d → device_taken front d.name ≡ false → step (made front None [] None [] None) (codes "device") (d.name ∷ unit_words d.kind) ≡ Ok (made (front ++ d ∷ []) None [] None [] None)
unfolding step outside device_line takes_device
device_step front d lt is new = rw (lt-ltb (length front) 8 lt, device_again front d is new) refl

devices_again : (front ds : List Device) (rest : List Line) → length (front ++ ds) ≤ 8 → AllByRecursion IsDevice ds → all_differ (device_names (front ++ ds)) ≡ true → steps (made front None [] None [] None) (map device_words ds ++ rest) ≡ steps (made (front ++ ds) None [] None [] None) rest
unfolding device_taken
devices_again front [] rest few is differ = ap (λ (ds : List Device). steps (made ds None [] None [] None) rest) (sym (append-nil front))
devices_again front (d ∷ ds) rest few is differ =
    let names : device_names (front ++ d ∷ ds) ≡ device_names front ++ (d.name ∷ device_names ds) = mapped_two (λ (x : Device). x.name) front (d ∷ ds) in
    let new : device_taken front d.name ≡ false = any_mapped (λ (x : Device). x.name) d.name front ∙ next_differs (device_names front) (device_names ds) d.name (ap all_differ (sym names) ∙ differ) in
    let regroup : (front ++ d ∷ []) ++ ds ≡ front ++ d ∷ ds = append_assoc front (d ∷ []) ds in
    one_more (made front None [] None [] None) (made (front ++ d ∷ []) None [] None [] None) (codes "device") (d.name ∷ unit_words d.kind) (map device_words ds ++ rest) (device_step front d (room front d ds 8 few) is.0 new)
    ∙ (devices_again (front ++ d ∷ []) ds rest (subst (λ (xs : List Device). length xs ≤ 8) (sym regroup) few) is.1 (ap (λ (xs : List Device). all_differ (device_names xs)) regroup ∙ differ)
    ∙ ap (λ (xs : List Device). steps (made xs None [] None [] None) rest) regroup)

pace_step : (ds : List Device) (pace : ℕ) → IsBetween 1 1000000 pace → step (made ds None [] None [] None) (codes "pace") (decimal pace ∷ []) ≡ Ok (made ds (Some pace) [] None [] None)
unfolding step outside pace_line takes_pace
pace_step ds pace is = rw (pace_again pace is) refl

pace_lines_again : (ds : List Device) (pace : Option ℕ) (rest : List Line) → IfSome pace (IsBetween 1 1000000) → steps (made ds None [] None [] None) (pace_lines pace ++ rest) ≡ steps (made ds pace [] None [] None) rest
pace_lines_again ds None rest is = refl
pace_lines_again ds (Some pace) rest is = one_more (made ds None [] None [] None) (made ds (Some pace) [] None [] None) (codes "pace") (decimal pace ∷ []) rest (pace_step ds pace is)

irq_step : (ds : List Device) (pace : Option ℕ) (front : List Interrupt) (irq : Interrupt) → length front < 1024 → last_step 1 front ≤ irq.step → irq.step ≤ 1000000 → IsBetween 1 255 irq.number → step (made ds pace front None [] None) (codes "irq") (decimal irq.step ∷ decimal irq.number ∷ []) ≡ Ok (made ds pace (front ++ irq ∷ []) None [] None)
unfolding step outside irq_line takes_irq
irq_step ds pace front irq lt from to number = rw (lt-ltb (length front) 1024 lt, irq_again front irq (subst (λ (n : ℕ). n ≤ irq.step) (sym (least_is_last front)) from) to number) refl

rise_low : (low : ℕ) (irqs : List Interrupt) → StepsRise low irqs → low ≤ 1000000
unfolding StepsRise
rise_low low [] rise = rise
rise_low low (irq ∷ irqs) rise = let from = rise.0 in let to = rise_low irq.step irqs rise.1.1 in omega (arith, from, to)

rise_front : (low : ℕ) (front back : List Interrupt) → StepsRise low (front ++ back) → StepsRise low front
unfolding StepsRise
rise_front low [] back rise = rise_low low back rise
rise_front low (irq ∷ front) back rise = (rise.0, (rise.1.0, rise_front irq.step front back rise.1.1))

irqs_again : (ds : List Device) (pace : Option ℕ) (front irqs : List Interrupt) (rest : List Line) → length (front ++ irqs) ≤ 1024 → StepsRise 1 (front ++ irqs) → steps (made ds pace front None [] None) (map irq_words irqs ++ rest) ≡ steps (made ds pace (front ++ irqs) None [] None) rest
irqs_again ds pace front [] rest few rise = ap (λ (xs : List Interrupt). steps (made ds pace xs None [] None) rest) (sym (append-nil front))
irqs_again ds pace front (irq ∷ irqs) rest few rise =
    let regroup : (front ++ irq ∷ []) ++ irqs ≡ front ++ irq ∷ irqs = append_assoc front (irq ∷ []) irqs in
    let risen : StepsRise 1 ((front ++ irq ∷ []) ++ irqs) = subst (StepsRise 1) (sym regroup) rise in
    let t = steps_before 1 front irq (rise_front 1 (front ++ irq ∷ []) irqs risen) in
    one_more (made ds pace front None [] None) (made ds pace (front ++ irq ∷ []) None [] None) (codes "irq") (decimal irq.step ∷ decimal irq.number ∷ []) (map irq_words irqs ++ rest) (irq_step ds pace front irq (room front irq irqs 1024 few) t.1 t.2 t.3)
    ∙ (irqs_again ds pace (front ++ irq ∷ []) irqs rest (subst (λ (xs : List Interrupt). length xs ≤ 1024) (sym regroup) few) risen
    ∙ ap (λ (xs : List Interrupt). steps (made ds pace xs None [] None) rest) regroup)

boot_step : (ds : List Device) (pace : Option ℕ) (irqs : List Interrupt) (boot : RawBoot) → IsBoot boot → step (made ds pace irqs None [] None) (codes "boot") (boot.body ∷ decimal boot.priority ∷ []) ≡ Ok (made ds pace irqs (Some boot) [] None)
unfolding step outside boot_line takes_boot
boot_step ds pace irqs boot is = rw (boot_again boot is) refl

-- what was read, up to the bodies that are at their end
abbrev with_bodies : List Device → Option ℕ → List Interrupt → RawBoot → List RawBody → Option RawBody → Builder
with_bodies ds pace irqs boot bodies current = made ds pace irqs (Some boot) bodies current

abbrev body_of : List ℕ → BodyKind → List RawItem → RawBody
body_of name kind lines = record { name = name; kind = kind; items = lines }

body_step : (ds : List Device) (pace : Option ℕ) (irqs : List Interrupt) (boot : RawBoot) (front : List RawBody) (name : List ℕ) (kind : BodyKind) → length front < 255 → IsName 16 name → body_taken front name ≡ false → step (with_bodies ds pace irqs boot front None) (codes "body") (name ∷ body_kind_word kind ∷ []) ≡ Ok (with_bodies ds pace irqs boot front (Some (body_of name kind [])))
unfolding step outside body_line takes_body
body_step ds pace irqs boot front name kind lt is new = rw (lt-ltb (length front) 255 lt, body_again front name kind is new) refl

label_step : (ds : List Device) (pace : Option ℕ) (irqs : List Interrupt) (boot : RawBoot) (front : List RawBody) (name : List ℕ) (kind : BodyKind) (done : List RawItem) (label : List ℕ) → IsName 16 label → label_taken done label ≡ false → step (with_bodies ds pace irqs boot front (Some (body_of name kind done))) (codes "label") (label ∷ []) ≡ Ok (with_bodies ds pace irqs boot front (Some (body_of name kind (done ++ items.Label label ∷ []))))
unfolding step inside label_line
label_step ds pace irqs boot front name kind done label is new = rw (label_again done label is new) refl

stmt_step : (ds : List Device) (pace : Option ℕ) (irqs : List Interrupt) (boot : RawBoot) (front : List RawBody) (name : List ℕ) (kind : BodyKind) (done : List RawItem) (stmt : RawStmt) → FitsItem (items.Stmt stmt) → step (with_bodies ds pace irqs boot front (Some (body_of name kind done))) (head_text stmt.head) (piece_words (form_of_head stmt.head) stmt.pieces) ≡ Ok (with_bodies ds pace irqs boot front (Some (body_of name kind (done ++ items.Stmt stmt ∷ []))))
unfolding step inside stmt_line
stmt_step ds pace irqs boot front name kind done stmt fits = rw (head_is_not_end stmt.head, head_is_not_label stmt.head, statement_again stmt fits) refl

end_step : (ds : List Device) (pace : Option ℕ) (irqs : List Interrupt) (boot : RawBoot) (front : List RawBody) (body : RawBody) → step (with_bodies ds pace irqs boot front (Some body)) (codes "end") [] ≡ Ok (with_bodies ds pace irqs boot (front ++ body ∷ []) None)
unfolding step inside end_line
end_step ds pace irqs boot front body = refl

items_again : (ds : List Device) (pace : Option ℕ) (irqs : List Interrupt) (boot : RawBoot) (front : List RawBody) (name : List ℕ) (kind : BodyKind) (done lines : List RawItem) (rest : List Line) → AllByRecursion FitsItem lines → all_differ (label_names (done ++ lines)) ≡ true → steps (with_bodies ds pace irqs boot front (Some (body_of name kind done))) (map raw_item_words lines ++ rest) ≡ steps (with_bodies ds pace irqs boot front (Some (body_of name kind (done ++ lines)))) rest
unfolding raw_item_words raw_stmt_words FitsItem label_names
items_again ds pace irqs boot front name kind done [] rest fits differ = ap (λ (xs : List RawItem). steps (with_bodies ds pace irqs boot front (Some (body_of name kind xs))) rest) (sym (append-nil done))
items_again ds pace irqs boot front name kind done (items.Label label ∷ lines) rest fits differ =
    let regroup : (done ++ items.Label label ∷ []) ++ lines ≡ done ++ items.Label label ∷ lines = append_assoc done (items.Label label ∷ []) lines in
    let new : label_taken done label ≡ false = taken_among done label ∙ next_differs (label_names done) (label_names lines) label (ap all_differ (sym (label_names_behind done (items.Label label ∷ lines))) ∙ differ) in
    one_more (with_bodies ds pace irqs boot front (Some (body_of name kind done))) (with_bodies ds pace irqs boot front (Some (body_of name kind (done ++ items.Label label ∷ [])))) (codes "label") (label ∷ []) (map raw_item_words lines ++ rest) (label_step ds pace irqs boot front name kind done label fits.0 new)
    ∙ (items_again ds pace irqs boot front name kind (done ++ items.Label label ∷ []) lines rest fits.1 (ap (λ (xs : List RawItem). all_differ (label_names xs)) regroup ∙ differ)
    ∙ ap (λ (xs : List RawItem). steps (with_bodies ds pace irqs boot front (Some (body_of name kind xs))) rest) regroup)
items_again ds pace irqs boot front name kind done (items.Stmt stmt ∷ lines) rest fits differ =
    let regroup : (done ++ items.Stmt stmt ∷ []) ++ lines ≡ done ++ items.Stmt stmt ∷ lines = append_assoc done (items.Stmt stmt ∷ []) lines in
    one_more (with_bodies ds pace irqs boot front (Some (body_of name kind done))) (with_bodies ds pace irqs boot front (Some (body_of name kind (done ++ items.Stmt stmt ∷ [])))) (head_text stmt.head) (piece_words (form_of_head stmt.head) stmt.pieces) (map raw_item_words lines ++ rest) (stmt_step ds pace irqs boot front name kind done stmt fits.0)
    ∙ (items_again ds pace irqs boot front name kind (done ++ items.Stmt stmt ∷ []) lines rest fits.1 (ap (λ (xs : List RawItem). all_differ (label_names xs)) regroup ∙ differ)
    ∙ ap (λ (xs : List RawItem). steps (with_bodies ds pace irqs boot front (Some (body_of name kind xs))) rest) regroup)

body_again_whole : (ds : List Device) (pace : Option ℕ) (irqs : List Interrupt) (boot : RawBoot) (front : List RawBody) (body : RawBody) (rest : List Line) → length front < 255 → IsRawBody body → body_taken front body.name ≡ false → steps (with_bodies ds pace irqs boot front None) (raw_body_lines body ++ rest) ≡ steps (with_bodies ds pace irqs boot (front ++ body ∷ []) None) rest
unfolding raw_body_lines open_body_lines
body_again_whole ds pace irqs boot front body rest lt is new =
    one_more (with_bodies ds pace irqs boot front None) (with_bodies ds pace irqs boot front (Some (body_of body.name body.kind []))) (codes "body") (body.name ∷ body_kind_word body.kind ∷ []) _ (body_step ds pace irqs boot front body.name body.kind lt is.name new)
    ∙ (ap (steps (with_bodies ds pace irqs boot front (Some (body_of body.name body.kind [])))) (append_assoc (map raw_item_words body.items) ((codes "end" ∷ []) ∷ []) rest)
    ∙ (items_again ds pace irqs boot front body.name body.kind [] body.items ((codes "end" ∷ []) ∷ rest) is.items is.labels_differ
    ∙ one_more (with_bodies ds pace irqs boot front (Some body)) (with_bodies ds pace irqs boot (front ++ body ∷ []) None) (codes "end") [] rest (end_step ds pace irqs boot front body)))

bodies_again : (ds : List Device) (pace : Option ℕ) (irqs : List Interrupt) (boot : RawBoot) (front bodies : List RawBody) → length (front ++ bodies) ≤ 255 → AllByRecursion IsRawBody bodies → all_differ (body_names (front ++ bodies)) ≡ true → steps (with_bodies ds pace irqs boot front None) (flat_map raw_body_lines bodies) ≡ Ok (with_bodies ds pace irqs boot (front ++ bodies) None)
unfolding steps body_taken
bodies_again ds pace irqs boot front [] few is differ = ap (λ (xs : List RawBody). fine (with_bodies ds pace irqs boot xs None)) (sym (append-nil front))
bodies_again ds pace irqs boot front (body ∷ bodies) few is differ =
    let names : body_names (front ++ body ∷ bodies) ≡ body_names front ++ (body.name ∷ body_names bodies) = mapped_two (λ (x : RawBody). x.name) front (body ∷ bodies) in
    let new : body_taken front body.name ≡ false = any_mapped (λ (x : RawBody). x.name) body.name front ∙ next_differs (body_names front) (body_names bodies) body.name (ap all_differ (sym names) ∙ differ) in
    let regroup : (front ++ body ∷ []) ++ bodies ≡ front ++ body ∷ bodies = append_assoc front (body ∷ []) bodies in
    body_again_whole ds pace irqs boot front body (flat_map raw_body_lines bodies) (room front body bodies 255 few) is.0 new
    ∙ (bodies_again ds pace irqs boot (front ++ body ∷ []) bodies (subst (λ (xs : List RawBody). length xs ≤ 255) (sym regroup) few) is.1 (ap (λ (xs : List RawBody). all_differ (body_names xs)) regroup ∙ differ)
    ∙ ap (λ (xs : List RawBody). fine (with_bodies ds pace irqs boot xs None)) regroup)

-- the lines of a script are read as it
pub steps_again : (raw : RawScript) → IsRaw raw → steps nothing (raw_lines raw) ≡ Ok (made raw.devices raw.pace raw.irqs (Some raw.boot) raw.bodies None)
unfolding raw_lines
steps_again raw is =
    let boot_on : List Line = raw_boot_words raw.boot ∷ flat_map raw_body_lines raw.bodies in
    devices_again [] raw.devices (pace_lines raw.pace ++ (map irq_words raw.irqs ++ boot_on)) is.few_devices is.devices is.devices_differ
    ∙ (pace_lines_again raw.devices raw.pace (map irq_words raw.irqs ++ boot_on) is.pace
    ∙ (irqs_again raw.devices raw.pace [] raw.irqs boot_on is.few_irqs is.irqs
    ∙ (one_more (made raw.devices raw.pace raw.irqs None [] None) (made raw.devices raw.pace raw.irqs (Some raw.boot) [] None) (codes "boot") (raw.boot.body ∷ decimal raw.boot.priority ∷ []) (flat_map raw_body_lines raw.bodies) (boot_step raw.devices raw.pace raw.irqs raw.boot (is.boot_body, is.boot_priority))
    ∙ bodies_again raw.devices raw.pace raw.irqs raw.boot [] raw.bodies is.few_bodies.1 is.bodies is.bodies_differ)))
