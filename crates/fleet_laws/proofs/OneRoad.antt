-- Steps of the driver of one device, with the messages that go into its inbox before it takes them.
use Rattle.std.proofs.Common.{◌≡◌, ℕ, Bool, true, false, List, [], ◌∷◌, ◌++◌, Option, Some, refl, ap, sym, ◌∙◌, arith}
use Rattle.std.specs.Prelude.{◌==◌, if◌then◌else◌, slice_set}
use Rattle.std.proofs.lemmas.Bool.Decides.{nat_tests}
use Rattle.std.proofs.lemmas.List.{append-nil}
use Rattle.kernel_lemmas.proofs.Tables.{entry_there, itself}
use Rattle.device_model.specs.declared.messages.Ending.{Ending}
use Rattle.device_model.specs.declared.messages.Message.{Message}
use Rattle.device_model.specs.declared.messages.Message.TheVariants as message
use Rattle.driver_model.specs.Cores.{Core, after_block, after_ending, after_message, can_take, ending_out}
use Rattle.driver_model.specs.Drives.{listed}
use Rattle.world_model.specs.Roads.{Road, after_abort, after_end, after_hand, after_take, after_turn, put_out}
use Rattle.world_model.specs.Worlds.{Abort, Block, End, Hand, Step, Take, World, all_stepped, road_at, stepped, with_road}
use Rattle.fleet_laws.specs.Doings.{gathered, passes_at, sends_at, sent_on, takes_at, took_on, writes_at}
use Rattle.fleet_laws.proofs.Gathers.{gathered_on, set_same, set_twice, stepped_on}

-- a world where the road of a device is another
abbrev pub changed : World → ℕ → Road → World
changed w d road = record w { roads = slice_set w.roads d (Some road) }

-- a road where no message is in the inbox
abbrev pub at_rest : List Message → Core → List Ending → Road
at_rest waiting core out = record { waiting = waiting; inbox = []; core = core; outbox = out }

-- some steps of a device lead from one road to another, wherever it stands so; its driver takes these messages and sends these endings
-- by them, no other one does anything, and nothing passes or is written
pub record Goes (d : ℕ) (road now : Road) (took : List Message) (sent : List Ending) : Type 0 where
  pub steps : List Step
  pub leads : (w : World) → road_at w d ≡ Some road → all_stepped w steps ≡ changed w d now
  pub takes : (w : World) → road_at w d ≡ Some road → gathered (takes_at d) w steps ≡ took
  pub sends : (w : World) → road_at w d ≡ Some road → gathered (sends_at d) w steps ≡ sent
  pub others_take : (w : World) (j : ℕ) → (j ≡ d → ⊥) → gathered (takes_at j) w steps ≡ []
  pub others_send : (w : World) (j : ℕ) → (j ≡ d → ⊥) → gathered (sends_at j) w steps ≡ []
  pub passes : (w : World) → gathered passes_at w steps ≡ []
  pub writes : (w : World) → gathered writes_at w steps ≡ []

-- ---- no step, one step, and steps behind others

pub goes_nowhere : (d : ℕ) (road : Road) → Goes d road road [] []
unfolding gathered all_stepped
goes_nowhere d road = record {
  steps = [];
  leads = λ w there. ap (λ (roads : List (Option Road)). let now : World = record w { roads = roads } in now) (sym (set_same w.roads d road there));
  takes = λ w there. refl;
  sends = λ w there. refl;
  others_take = λ w j apart. refl;
  others_send = λ w j apart. refl;
  passes = λ w. refl;
  writes = λ w. refl;
}

gathered_one : {A : Type 0} → (at : World → Step → List A) (w : World) (s : Step) (xs : List A) → at w s ≡ xs → gathered at w (s ∷ []) ≡ xs
unfolding gathered
gathered_one at w s xs is = append-nil (at w s) ∙ is

one_step : (w : World) (s : Step) → all_stepped w (s ∷ []) ≡ stepped w s
unfolding all_stepped
one_step w s = refl

goes_once : (d : ℕ) (road now : Road) (took : List Message) (sent : List Ending) (s : Step) →
    ((w : World) → road_at w d ≡ Some road → stepped w s ≡ changed w d now) →
    ((w : World) → road_at w d ≡ Some road → takes_at d w s ≡ took) →
    ((w : World) → road_at w d ≡ Some road → sends_at d w s ≡ sent) →
    ((w : World) (j : ℕ) → (j ≡ d → ⊥) → takes_at j w s ≡ []) →
    ((w : World) (j : ℕ) → (j ≡ d → ⊥) → sends_at j w s ≡ []) →
    ((w : World) → passes_at w s ≡ []) →
    ((w : World) → writes_at w s ≡ []) → Goes d road now took sent
goes_once d road now took sent s leads takes sends others_take others_send passes writes = record {
  steps = s ∷ [];
  leads = λ w there. one_step w s ∙ leads w there;
  takes = λ w there. gathered_one (takes_at d) w s took (takes w there);
  sends = λ w there. gathered_one (sends_at d) w s sent (sends w there);
  others_take = λ w j apart. gathered_one (takes_at j) w s [] (others_take w j apart);
  others_send = λ w j apart. gathered_one (sends_at j) w s [] (others_send w j apart);
  passes = λ w. gathered_one passes_at w s [] (passes w);
  writes = λ w. gathered_one writes_at w s [] (writes w);
}

pub goes_then : (d : ℕ) (road now last : Road) (took more : List Message) (sent sends : List Ending) → Goes d road now took sent → Goes d now last more sends → Goes d road last (took ++ more) (sent ++ sends)
goes_then d road now last took more sent sends first second = record {
  steps = first.steps ++ second.steps;
  leads = λ w there.
      stepped_on w first.steps second.steps ∙ ap (λ (it : World). all_stepped it second.steps) (first.leads w there)
      ∙ second.leads (changed w d now) (entry_there w.roads d road (Some now) there)
      ∙ ap (λ (roads : List (Option Road)). let it : World = record w { roads = roads } in it) (set_twice w.roads d (Some now) (Some last));
  takes = λ w there. joins (takes_at d) w there took more (first.takes w there) second.takes;
  sends = λ w there. joins (sends_at d) w there sent sends (first.sends w there) second.sends;
  others_take = λ w j apart. nothing (takes_at j) w (first.others_take w j apart) (second.others_take (all_stepped w first.steps) j apart);
  others_send = λ w j apart. nothing (sends_at j) w (first.others_send w j apart) (second.others_send (all_stepped w first.steps) j apart);
  passes = λ w. nothing passes_at w (first.passes w) (second.passes (all_stepped w first.steps));
  writes = λ w. nothing writes_at w (first.writes w) (second.writes (all_stepped w first.steps));
}
  where
    joins : {A : Type 0} → (at : World → Step → List A) (w : World) → road_at w d ≡ Some road → (xs ys : List A) → gathered at w first.steps ≡ xs →
        ((it : World) → road_at it d ≡ Some now → gathered at it second.steps ≡ ys) → gathered at w (first.steps ++ second.steps) ≡ xs ++ ys
    joins {A = A} at w there xs ys front back =
        gathered_on at w first.steps second.steps
        ∙ ap (λ (zs : List A). zs ++ gathered at (all_stepped w first.steps) second.steps) front
        ∙ ap (λ (it : World). xs ++ gathered at it second.steps) (first.leads w there)
        ∙ ap (λ (zs : List A). xs ++ zs) (back (changed w d now) (entry_there w.roads d road (Some now) there))

    nothing : {A : Type 0} → (at : World → Step → List A) (w : World) → gathered at w first.steps ≡ [] → gathered at (all_stepped w first.steps) second.steps ≡ [] → gathered at w (first.steps ++ second.steps) ≡ []
    nothing {A = A} at w front back =
        gathered_on at w first.steps second.steps
        ∙ ap (λ (zs : List A). zs ++ gathered at (all_stepped w first.steps) second.steps) front
        ∙ back

-- ---- the steps of a device

apart_test : (d j : ℕ) → (j ≡ d → ⊥) → (d == j) ≡ false
apart_test d j apart = by_test (d == j) refl
  where
    by_test : (test : Bool) → (d == j) ≡ test → test ≡ false
    by_test false is = refl
    by_test true is = let same : j ≡ d = grind (arith, nat_tests, is) in absurd (apart same)

road_changed : (change : Road → Road) (w : World) (d : ℕ) (road now : Road) → change road ≡ now → road_at w d ≡ Some road → with_road change w d (road_at w d) ≡ changed w d now
road_changed change w d road now is there =
    ap (λ (slot : Option Road). with_road change w d slot) there ∙ ap (λ (it : Road). changed w d it) is

goes_hand : (d : ℕ) (road now : Road) → after_hand road ≡ now → Goes d road now [] []
unfolding stepped takes_at sends_at passes_at writes_at
goes_hand d road now is =
    goes_once d road now [] [] (Hand d) (λ w there. road_changed after_hand w d road now is there) (λ w there. refl) (λ w there. refl) (λ w j apart. refl) (λ w j apart. refl) (λ w. refl) (λ w. refl)

goes_abort : (d : ℕ) (road now : Road) → after_abort road ≡ now → Goes d road now [] []
unfolding stepped takes_at sends_at passes_at writes_at
goes_abort d road now is =
    goes_once d road now [] [] (Abort d) (λ w there. road_changed after_abort w d road now is there) (λ w there. refl) (λ w there. refl) (λ w j apart. refl) (λ w j apart. refl) (λ w. refl) (λ w. refl)

-- a turn
pub goes_block : (d : ℕ) (waiting : List Message) (core : Core) (out : List Ending) → Goes d (at_rest waiting core out) (at_rest waiting (after_block core) out) [] []
unfolding stepped takes_at sends_at passes_at writes_at after_turn
goes_block d waiting core out =
    goes_once d (at_rest waiting core out) (at_rest waiting (after_block core) out) [] [] (Block d)
    (λ w there. road_changed after_turn w d (at_rest waiting core out) (at_rest waiting (after_block core) out) refl there)
    (λ w there. refl) (λ w there. refl) (λ w j apart. refl) (λ w j apart. refl) (λ w. refl) (λ w. refl)

-- a message that waits goes into the inbox
goes_in : (d : ℕ) (m : Message) (later : List Message) (core : Core) (out : List Ending) →
    Goes d (at_rest (m ∷ later) core out) (record { waiting = later; inbox = m ∷ []; core = core; outbox = out }) [] []
unfolding after_hand after_abort
goes_in d (message.Serve device request) later core out = goes_hand d _ _ refl
goes_in d (message.Abort device number) later core out = goes_abort d _ _ refl
goes_in d (message.Stop device) later core out = goes_hand d _ _ refl

goes_from_inbox : (d : ℕ) (m : Message) (later : List Message) (core : Core) (out : List Ending) → can_take core m ≡ true →
    Goes d (record { waiting = later; inbox = m ∷ []; core = core; outbox = out }) (at_rest later (after_message core m) out) (m ∷ []) []
unfolding stepped takes_at sends_at passes_at writes_at after_take
goes_from_inbox d m later core out may =
    goes_once d full (at_rest later (after_message core m) out) (m ∷ []) [] (Take d)
    (λ w there. road_changed after_take w d full (at_rest later (after_message core m) out) (ap (λ (test : Bool). if test then at_rest later (after_message core m) out else full) may) there)
    (λ w there. ap (λ (test : Bool). if test then took_on (road_at w d) else []) (itself d)
    ∙ (ap took_on there ∙ ap (λ (test : Bool). if test then m ∷ [] else []) may))
    (λ w there. refl)
    (λ w j apart. ap (λ (test : Bool). if test then took_on (road_at w j) else []) (apart_test d j apart))
    (λ w j apart. refl) (λ w. refl) (λ w. refl)
  where
    full : Road
    full = record { waiting = later; inbox = m ∷ []; core = core; outbox = out }

-- and the driver takes it
pub goes_take : (d : ℕ) (m : Message) (later : List Message) (core : Core) (out : List Ending) → can_take core m ≡ true →
    Goes d (at_rest (m ∷ later) core out) (at_rest later (after_message core m) out) (m ∷ []) []
goes_take d m later core out may = goes_then d _ _ _ [] (m ∷ []) [] [] (goes_in d m later core out) (goes_from_inbox d m later core out may)

-- an ending goes into the outbox
pub goes_end : (d : ℕ) (waiting : List Message) (core : Core) (e : Ending) → ending_out core ≡ Some e →
    Goes d (at_rest waiting core []) (at_rest waiting (after_ending core) (e ∷ [])) [] (e ∷ [])
unfolding stepped takes_at sends_at passes_at writes_at after_end
goes_end d waiting core e is =
    goes_once d (at_rest waiting core []) (at_rest waiting (after_ending core) (e ∷ [])) [] (e ∷ []) (End d)
    (λ w there. road_changed after_end w d (at_rest waiting core []) (at_rest waiting (after_ending core) (e ∷ [])) (ap (λ (out : Option Ending). put_out (at_rest waiting core []) out) is) there)
    (λ w there. refl)
    (λ w there. ap (λ (test : Bool). if test then sent_on (road_at w d) else []) (itself d) ∙ (ap sent_on there ∙ ap listed is))
    (λ w j apart. refl)
    (λ w j apart. ap (λ (test : Bool). if test then sent_on (road_at w j) else []) (apart_test d j apart))
    (λ w. refl) (λ w. refl)
