-- What the kernel's steps make of a world in the midst of a run, and the last of them.
use Rattle.std.proofs.Common.{◌≡◌, ℕ, List, [], ◌∷◌, ◌++◌, map, Option, Some, None, refl, ap, sym, subst, ◌∙◌, arith}
use Rattle.std.proofs.lemmas.List.{append-nil, append_assoc}
use Rattle.tk_types.specs.declared.line.Line.{Line}
use Rattle.tk_types.specs.declared.run.End.{End as RunEnd}
use Rattle.tk_types.specs.declared.run.End.TheVariants as run_ends
use Rattle.kernel_model.specs.Words.Orders.{entry}
use Rattle.device_model.specs.declared.messages.Ending.{Ending}
use Rattle.device_model.specs.declared.messages.Message.{Message}
use Rattle.device_model.specs.declared.messages.Message.TheVariants as message
use Rattle.device_model.specs.Devices.Handing.{messages}
use Rattle.driver_model.specs.Cores.{Core}
use Rattle.driver_model.specs.Drives.{Event as DriverEvent, ran}
use Rattle.fleet_model.specs.Records.{IsFront, Joined}
use Rattle.machine_model.specs.States.State.{State, taken}
use Rattle.machine_model.specs.Events.Follow.{Event}
use Rattle.machine_model.specs.Runs.Step.{Ends, Pace, Went, step}
use Rattle.run_model.specs.Passings.{Passing, endings_of, gives, messages_to}
use Rattle.world_model.specs.Roads.{Road, joined, joined_to, stop_to, stops_joined}
use Rattle.world_model.specs.Worlds.{Kernel, Step, World, after_kernel, after_pace, all_stepped, came_to, stepped}
use Rattle.world_laws.proofs.Worlds.{joined_at, stops_at}
use Rattle.fleet_laws.specs.Doings.{gathered, of_pace, pace_lines, passes_at, sends_at, takes_at, writes_at}
use Rattle.fleet_laws.specs.Embeds.{plain}
use Rattle.fleet_laws.proofs.Devices.{Stays}
use Rattle.fleet_laws.proofs.DriverRuns.{driving}
use Rattle.fleet_laws.proofs.OneRoad.{at_rest}
use Rattle.fleet_laws.proofs.Points.{OfChannels, Point, Run, came_point, came_stays, endings_on, going, gives_none, links_of, more_of, none_of, over_right, passed_of, sent_of, stays_so, taken_of, world_of, world_then, written_of}

-- ---- a step of the kernel

abbrev pub on_kernel : List Step → List Step
on_kernel steps = steps ++ Kernel ∷ []

-- what is known of it
record IsStep (k : Run) (steps : List Step) (st : State) (roads : List (Option Road)) (pace : Pace) : Type 0 where
  pub leads : world_of k (on_kernel steps) ≡ after_pace (going k st None roads) pace
  pub passes : passed_of k (on_kernel steps) ≡ passed_of k steps ++ of_pace pace
  pub writes : written_of k (on_kernel steps) ≡ written_of k steps ++ pace_lines pace
  pub takes : (d : ℕ) → taken_of k (on_kernel steps) d ≡ taken_of k steps d
  pub sends : (d : ℕ) → sent_of k (on_kernel steps) d ≡ sent_of k steps d

is_step : (k : Run) (steps : List Step) (st : State) (roads : List (Option Road)) (pace : Pace) → world_of k steps ≡ going k st None roads → step k.script k.mode k.budget st ≡ pace → IsStep k steps st roads pace
unfolding all_stepped stepped after_kernel gathered passes_at writes_at takes_at sends_at
is_step k steps st roads pace is at = record {
  leads = world_then k steps (Kernel ∷ []) before (after_pace before pace) is (ap (λ (it : Pace). after_pace before it) at);
  passes = more_of passes_at k steps (Kernel ∷ []) before (of_pace pace) is (append-nil (of_pace (step k.script k.mode k.budget st)) ∙ ap of_pace at);
  writes = more_of writes_at k steps (Kernel ∷ []) before (pace_lines pace) is (append-nil (pace_lines (step k.script k.mode k.budget st)) ∙ ap pace_lines at);
  takes = λ d. none_of (takes_at d) k steps (Kernel ∷ []) before is refl;
  sends = λ d. none_of (sends_at d) k steps (Kernel ∷ []) before is refl;
}
  where
    before : World
    before = going k st None roads

-- no ending is taken in
none_came : (k : Run) (steps : List Step) (st : State) (roads : List (Option Road)) (pace : Pace) → IsStep k steps st roads pace → (d : ℕ) → endings_of d (of_pace pace) ≡ [] →
    endings_of d (passed_of k steps) ≡ sent_of k steps d → endings_of d (passed_of k (on_kernel steps)) ≡ sent_of k (on_kernel steps) d
none_came k steps st roads pace it d none came =
    ap (λ (all : List Passing). endings_of d all) it.passes ∙ endings_on d (passed_of k steps) (of_pace pace)
    ∙ ap (λ (xs : List Ending). endings_of d (passed_of k steps) ++ xs) none ∙ append-nil (endings_of d (passed_of k steps)) ∙ came ∙ sym (it.sends d)

-- the kernel comes to a state, and the run isn't over
pub kernel_point : (k : Run) (steps : List Step) (st now : State) (lines : List Line) (later : List Passing) (pace : Pace) → step k.script k.mode k.budget st ≡ pace → ((w : World) → after_pace w pace ≡ came_to w now) →
    of_pace pace ≡ gives now → Point k steps st (pace_lines pace ++ lines) (gives now ++ later) → Point k (on_kernel steps) (taken now) lines later
kernel_point k steps st now lines later pace at comes passes p =
    came_point k (on_kernel steps) now lines later p.roads
    (it.leads ∙ comes (going k st None p.roads))
    (ap (λ (all : List Line). all ++ lines) it.writes ∙ append_assoc (written_of k steps) (pace_lines pace) lines ∙ p.written)
    (ap (λ (all : List Passing). map plain (all ++ later)) (it.passes ∙ ap (λ (all : List Passing). passed_of k steps ++ all) passes)
    ∙ ap (λ (all : List Passing). map plain all) (append_assoc (passed_of k steps) (gives now) later) ∙ p.passed)
    (λ d c has. stays_so d c (gives now ++ later) (entry p.roads d) (taken_of k steps d) (taken_of k (on_kernel steps) d) (sent_of k steps d) (sent_of k (on_kernel steps) d) (it.takes d) (it.sends d) (p.each d c has))
    (λ d c has. none_came k steps st p.roads pace it d (ap (λ (all : List Passing). endings_of d all) passes ∙ gives_none d now) (p.came d c has))
  where
    it : IsStep k steps st p.roads pace
    it = is_step k steps st p.roads pace p.is at

-- ---- the run is over

-- a device once the run is over: all that was handed was taken or waits
pub record Rests (d : ℕ) (c : Joined) (slot : Option Road) (messages : List Message) (endings : List Ending) : Type 0 where
  pub waiting : List Message
  pub core : Core
  pub there : slot ≡ Some (at_rest waiting core [])
  pub events : List DriverEvent
  pub last : Core
  pub run : ran (driving core messages endings) events ≡ driving last c.taken c.sent
  pub front : IsFront c.taken c.handed
  pub handed : c.handed ≡ messages ++ waiting

-- after these steps the run is over, and each device rests so
pub record Past (k : Run) (steps : List Step) (state : State) (end : RunEnd) : Type 0 where
  pub roads : List (Option Road)
  pub is : world_of k steps ≡ going k state (Some end) roads
  pub written : written_of k steps ≡ k.lines
  pub passed : map plain (passed_of k steps) ≡ map plain k.all
  pub each : OfChannels k (λ d c. Rests d c (entry roads d) (taken_of k steps d) (sent_of k steps d))
  pub came : OfChannels k (λ d c. endings_of d (passed_of k steps) ≡ sent_of k steps d)

-- a Stop joins what waits
stop_rests : (d : ℕ) (c : Joined) (slot : Option Road) (messages now : List Message) (endings other : List Ending) → now ≡ messages → other ≡ endings → Stays d c [] slot messages endings → Rests d c (stop_to d slot) now other
unfolding messages_to
stop_rests d c slot messages now endings other is also stays =
    subst (λ (ms : List Message). Rests d c (stop_to d slot) ms other) (sym is) (subst (λ (es : List Ending). Rests d c (stop_to d slot) messages es) (sym also) (record {
      waiting = stays.waiting ++ message.Stop d ∷ [];
      core = stays.core;
      there = ap (λ (it : Option Road). stop_to d it) stays.there;
      events = stays.events;
      last = stays.last;
      run = stays.run;
      front = stays.front;
      handed = stays.handed;
    }))

stop_there : (roads : List (Option Road)) (d : ℕ) → entry (stops_joined 0 roads) d ≡ stop_to d (entry roads d)
stop_there roads d = stops_at 0 roads d ∙ ap (λ (n : ℕ). stop_to n (entry roads d)) (omega arith)

nothing_ends : (d : ℕ) → endings_of d [] ≡ []
unfolding endings_of
nothing_ends d = refl

-- nothing is left to do
pub ends_past : (k : Run) (steps : List Step) (st : State) → step k.script k.mode k.budget st ≡ Ends → Point k steps st [] [] → Past k (on_kernel steps) st run_ends.Idle
ends_past k steps st at p = record {
  roads = stops_joined 0 p.roads;
  is = it.leads;
  written = it.writes ∙ p.written;
  passed = ap (λ (all : List Passing). map plain all) it.passes ∙ p.passed;
  each = λ d c has. subst (λ (slot : Option Road). Rests d c slot (taken_of k (on_kernel steps) d) (sent_of k (on_kernel steps) d)) (sym (stop_there p.roads d))
      (stop_rests d c (entry p.roads d) (taken_of k steps d) (taken_of k (on_kernel steps) d) (sent_of k steps d) (sent_of k (on_kernel steps) d) (it.takes d) (it.sends d) (p.each d c has));
  came = λ d c has. none_came k steps st p.roads Ends it d (nothing_ends d) (p.came d c has);
}
  where
    it : IsStep k steps st p.roads Ends
    it = is_step k steps st p.roads Ends p.is at

-- a step ends the run
pub went_past : (k : Run) (steps : List Step) (st : State) (event : Event) (end : RunEnd) → step k.script k.mode k.budget st ≡ Went event (Some end) → Point k steps st (event.lines ++ []) (gives event.state) →
    Past k (on_kernel steps) (taken event.state) end
went_past k steps st event end at p = record {
  roads = stops_joined 0 (joined (links_of event.state) p.roads);
  is = it.leads;
  written = it.writes ∙ ap (λ (more : List Line). written_of k steps ++ more) (sym (append-nil event.lines)) ∙ p.written;
  passed = ap (λ (all : List Passing). map plain all) it.passes ∙ p.passed;
  each = λ d c has. subst (λ (slot : Option Road). Rests d c slot (taken_of k (on_kernel steps) d) (sent_of k (on_kernel steps) d))
      (sym (stop_there (joined (links_of event.state) p.roads) d ∙ ap (λ (slot : Option Road). stop_to d slot) (joined_at (links_of event.state) p.roads d)))
      (stop_rests d c (joined_to (entry (links_of event.state) d) (entry p.roads d)) (taken_of k steps d) (taken_of k (on_kernel steps) d) (sent_of k steps d) (sent_of k (on_kernel steps) d) (it.takes d) (it.sends d)
      (came_stays d c event.state [] p.roads (taken_of k steps d) (sent_of k steps d) (over_right k (on_kernel steps) event.state end p.roads it.leads)
      (subst (λ (all : List Passing). Stays d c all (entry p.roads d) (taken_of k steps d) (sent_of k steps d)) (sym (append-nil (gives event.state))) (p.each d c has))));
  came = λ d c has. none_came k steps st p.roads (Went event (Some end)) it d (gives_none d event.state) (p.came d c has);
}
  where
    it : IsStep k steps st p.roads (Went event (Some end))
    it = is_step k steps st p.roads (Went event (Some end)) p.is at
