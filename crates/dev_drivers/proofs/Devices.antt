-- Each ending that a driver gives out has the device of its driver.
use Rattle.std.proofs.Common.{◌≡◌, ℕ, ◌+◌, Bool, true, false, List, [], ◌∷◌, ◌++◌, map, Option, Some, None, refl, ap, sym, ◌∙◌}
use Rattle.std.specs.Prelude.{◌==◌, if◌then◌else◌}
use Rattle.std.specs.Option.{option_map}
use Rattle.std.proofs.lemmas.List.{map-append}
use Rattle.tk_types.specs.declared.script.Kind.{Kind}
use Rattle.device_model.specs.declared.messages.Ending.{Ending}
use Rattle.device_model.specs.declared.messages.Message.{Message}
use Rattle.device_model.specs.declared.messages.Message.TheVariants as message
use Rattle.device_model.specs.declared.messages.Request.{Request}
use Rattle.driver_model.specs.Cores.{Core, aborted, after_block, after_ending, after_message, can_take, core_start, cut_off, done, ending_out, heard, is_empty_turn, next_block, turned, went_on, worked}
use Rattle.driver_model.specs.Drives.{Block, Driving, End, Event, Reaches, Take, driver_step, driving_start, listed, ran}
use Rattle.dev_drivers.specs.Links.{of_device}

record IsOf (d : ℕ) (c : Core) : Type 0 where
  core : c.device ≡ d
  ready : option_map (of_device d) c.ready ≡ c.ready

either_core : (P : Core → Type 0) (test : Bool) (one other : Core) → P one → P other → P (if test then one else other)
either_core P true one other first second = first
either_core P false one other first second = second

-- an ending of this driver
ready_of : (d : ℕ) (c : Core) (e : Ending) → c.device ≡ d → e.device ≡ c.device → option_map (of_device d) (Some e) ≡ Some e
ready_of d c e is same = ap (λ (n : ℕ). Some (of_device n e)) (sym (same ∙ is))

heard_of : (d : ℕ) (c : Core) (m : Message) → IsOf d c → IsOf d (heard c m)
heard_of d c (message.Serve k request) is = record { core = is.core; ready = is.ready }
heard_of d c (message.Abort k number) is = by_slot c.given
  where
    by_slot : (slot : Option Request) → IsOf d (aborted number c slot)
    by_slot None = is
    by_slot (Some request) = either_core (IsOf d) (request.number == number) (cut_off c request) c (record { core = is.core; ready = ready_of d c _ is.core refl }) is
heard_of d c (message.Stop k) is = record { core = is.core; ready = is.ready }

turned_of : (d : ℕ) (c : Core) (slot : Option Request) → IsOf d c → IsOf d (turned c slot)
turned_of d c None is = is
turned_of d c (Some request) is =
    either_core (IsOf d) (is_empty_turn c request) (record c { turns = c.turns + 1 }) (worked c request) (record { core = is.core; ready = is.ready })
    (either_core (IsOf d) _ (done c request (next_block c request)) (went_on c (next_block c request)) (record { core = is.core; ready = ready_of d c _ is.core refl }) (record { core = is.core; ready = is.ready }))

-- all endings so far, and the driver
record AreOf (d : ℕ) (g : Driving) : Type 0 where
  core : IsOf d g.core
  sent : map (of_device d) g.sent ≡ g.sent

out_of : (d taken : ℕ) (slot : Option Ending) → option_map (of_device d) slot ≡ slot →
    map (of_device d) (listed (option_map (λ (e : Ending). record e { taken = taken }) slot)) ≡ listed (option_map (λ (e : Ending). record e { taken = taken }) slot)
out_of d taken None is = refl
out_of d taken (Some e) is = ap (λ (o : Option Ending). listed (option_map (λ (e : Ending). record e { taken = taken }) o)) is

end_out : (d : ℕ) (stopped : Bool) (taken : ℕ) (slot : Option Ending) → option_map (of_device d) slot ≡ slot →
    map (of_device d) (listed (if stopped then None else option_map (λ (e : Ending). record e { taken = taken }) slot)) ≡ listed (if stopped then None else option_map (λ (e : Ending). record e { taken = taken }) slot)
end_out d true taken slot is = refl
end_out d false taken slot is = out_of d taken slot is

step_of : (d : ℕ) (g : Driving) (e : Event) → AreOf d g → AreOf d (driver_step g e)
unfolding driver_step after_message after_block after_ending ending_out
step_of d g (Take m) is = by_test (can_take g.core m)
  where
    by_test : (may : Bool) → AreOf d (if may then record g { core = after_message g.core m; taken = g.taken ++ m ∷ [] } else g)
    by_test true = let now = heard_of d g.core m is.core in record { core = record { core = now.core; ready = now.ready }; sent = is.sent }
    by_test false = is
step_of d g Block is = record {
  core = either_core (IsOf d) g.core.stopped g.core (turned g.core g.core.given) is.core (turned_of d g.core g.core.given is.core);
  sent = is.sent;
}
step_of d g End is = record {
  core = either_core (IsOf d) g.core.stopped g.core (record g.core { ready = None }) is.core (record { core = is.core.core; ready = refl });
  sent = map-append (of_device d) g.sent (listed (ending_out g.core))
      ∙ (ap (λ (l : List Ending). l ++ map (of_device d) (listed (ending_out g.core))) is.sent
      ∙ ap (λ (l : List Ending). g.sent ++ l) (end_out d g.core.stopped g.core.taken g.core.ready is.core.ready));
}

runs_of : (d : ℕ) (events : List Event) (g : Driving) → AreOf d g → AreOf d (ran g events)
unfolding ran
runs_of d [] g is = is
runs_of d (e ∷ events) g is = runs_of d events (driver_step g e) (step_of d g e is)

-- what a driver of a device has sent is of that device
pub sent_of : (d : ℕ) (kind : Kind) (g : Driving) → Reaches (driving_start d kind) g → map (of_device d) g.sent ≡ g.sent
sent_of d kind g run =
    let all = (runs_of d run.events (driving_start d kind) (record { core = record { core = refl; ready = refl }; sent = refl })).sent in
    ap (λ (o : Driving). map (of_device d) o.sent) (sym run.gives) ∙ (all ∙ ap (λ (o : Driving). o.sent) run.gives)

head_same : (d : ℕ) (e : Ending) (xs ys : List Ending) → (of_device d e ∷ xs) ≡ e ∷ ys → (of_device d e ≡ e) × (xs ≡ ys)
head_same d e xs ys is = (cc is, cc is)

-- so is a front of it
pub front_of : (d : ℕ) (xs ys : List Ending) → map (of_device d) (xs ++ ys) ≡ xs ++ ys → map (of_device d) xs ≡ xs
front_of d [] ys is = refl
front_of d (e ∷ xs) ys is =
    let both = head_same d e (map (of_device d) (xs ++ ys)) (xs ++ ys) is in
    ap (λ (o : Ending). o ∷ map (of_device d) xs) both.0 ∙ ap (λ (l : List Ending). e ∷ l) (front_of d xs ys both.1)
