-- A turn of a run with drivers: what a step came to, and what is passed on.
use Rattle.std.proofs.Common.{◌≡◌, ℕ, ◌+◌, ◌≤◌, Bool, true, List, [], ◌∷◌, ◌++◌, length, Option, Some, None, Result, Ok, Err, refl, ap, sym, subst, ◌∙◌, arith}
use Rattle.std.proofs.lemmas.List.{append-nil, length-append, length-map}
use Rattle.std.specs.Prelude.{IsErrAnd, OnErr, OnOk}
use Rattle.tk_types.specs.declared.memory.OutOfMemory.{OutOfMemory}
use Rattle.tk_types.specs.declared.line.Line.{Line}
use Rattle.tk_types.specs.declared.line.Line.TheVariants as lines
use Rattle.tk_types.specs.declared.run.End.{End}
use Rattle.tk_types.specs.declared.run.End.TheVariants as ends
use Rattle.tk_types.specs.declared.run.Mode.{Mode}
use Rattle.tk_types.specs.declared.script.Script.{Script}
use Rattle.device_model.specs.declared.messages.Ending.{Ending}
use Rattle.device_model.specs.declared.messages.Message.{Message}
use Rattle.device_model.specs.Devices.Handing.{messages}
use Rattle.tk_types.specs.declared.script.Device.{Device}
use Rattle.tk_types.specs.declared.script.Kind.{Kind}
use Rattle.fleet_model.specs.Channels.{Channel}
use Rattle.fleet_model.specs.Fleets.{EachHasPlace, Fleet, IsOfFleet, Polled, Waited, after_drop, may_accept}
use Rattle.machine_model.specs.States.State.{State}
use Rattle.machine_model.specs.Events.Follow.{Event}
use Rattle.machine_model.specs.Runs.Machine.{Machine, after_pace, after_step}
use Rattle.machine_model.specs.Runs.Step.{Pace as Outcome, Ends, Needs, Went as Done, step}
use Rattle.machine_model.specs.Runs.Trace.{last_of}
use Rattle.run_model.specs.SoFar.{SoFar, after_ending, after_event, after_need}
use Rattle.tk_kernel.specs.Pace.{pace_after, pace_with}
use Rattle.tk_kernel.specs.declared.pacing.Pace.{Pace}
use Rattle.tk_kernel.specs.declared.pacing.Pace.TheVariants.{NeedsEnding, Over, Went}
use Rattle.tk_model.specs.LineText.{text_of_lines}
use Rattle.tk_ports.specs.Streams.{Appends, AppendsFront, Rose}
use Rattle.tk_ports.proofs.Streams.{appends_append, appends_none, front_behind}
use Rattle.tk_trace.proofs.Growth.{lines_append}
use Rattle.turn_lemmas.specs.Going.{Coming, Going, Hands, IsFleetRun, IsFrontOf, IsGoing, IsOver, MayHand, OfferAnswers, going}
use Rattle.turn_lemmas.proofs.Ends.{idle_over, over_handed, over_may, over_front, over_waits, so_far_front, went_over}
use Rattle.turn_lemmas.proofs.Moves.{TakenIn, coming_may, coming_waits, drops_going, fewer_going, going_places, handed_going, needs_comes, polls_going, takes_coming, waits_going, went_comes}
use Rattle.tk_run.specs.FleetRuns.{BreaksOff, EndsSo, GoesOn, Held, MayClose, StepAnswers, TakeAnswers, Took, TookFront, TurnAnswers}
use Rattle.tk_run.specs.declared.writing.Unwritten.{Unwritten}
use Rattle.tk_run.specs.declared.writing.Unwritten.TheVariants as failures

-- ---- what a sink took

pub took_none : (held : Held) → Took held held []
took_none held = record { appended = appends_none held.bytes; faults_stay = omega arith; certain = λ fits. (refl, omega arith) }

took_bytes : (old mid new : Held) (first second : List ℕ) → Took old mid first → Took mid new second → Took old new (first ++ second)
took_bytes old mid new first second p q = record {
  appended = appends_append old.bytes mid.bytes new.bytes first second p.appended q.appended;
  faults_stay = omega (arith, p.faults_stay, q.faults_stay);
  certain = λ fits.
      let size : length (first ++ second) ≡ length first + length second = length-append first second in
      let one = p.certain (omega (arith, fits, size)) in
      let two = q.certain (omega (arith, fits, size, one.1)) in
      (two.0 ∙ one.0, omega (arith, size, one.1, two.1));
}

pub took_lines : (old mid new : Held) (first second : List Line) → Took old mid (text_of_lines first) → Took mid new (text_of_lines second) → Took old new (text_of_lines (first ++ second))
took_lines old mid new first second p q =
    subst (Took old new) (sym (lines_append first second)) (took_bytes old mid new (text_of_lines first) (text_of_lines second) p q)

no_text : text_of_lines [] ≡ []
unfolding text_of_lines
no_text = refl

pub took_nothing : (held : Held) → Took held held (text_of_lines [])
took_nothing held = subst (Took held held) (sym no_text) (took_none held)

-- nothing was written, since the host's memory ran out
pub unwritten : (held : Held) → TookFront held held (text_of_lines []) failures.NoMemory
unwritten held = record { answer = refl; rose = λ is. absurd (cc is); faults_stay = omega arith; certain = λ fits. (λ is. cc is, refl) }

-- ---- a step

-- the run goes on with an event; an ending is needed; or it is over
pub data Stepped (script : Script) (mode : Mode) (budget : ℕ) (so : SoFar) (new : Machine) (fleet : Fleet) (pace : Pace) : Type 0 where
  went : (event : Event) → Coming script mode budget (after_event so event) event.lines (messages event.state.objects.devices) None 0 new fleet → pace ≡ Went → Stepped script mode budget so new fleet pace
  needed : (waiting : State) → Coming script mode budget (after_need so waiting) [] (messages waiting.objects.devices) None 1 new fleet → pace ≡ NeedsEnding → Stepped script mode budget so new fleet pace
  is_over : (end : End) → IsOver script mode budget (so.lines ++ new.lines) end new.messages fleet → pace ≡ Over end → Stepped script mode budget so new fleet pace

over_lines : (script : Script) (mode : Mode) (budget : ℕ) (end : End) (so : List Line) (made now : List Line) (ms left : List Message) (fleet : Fleet) → now ≡ made → left ≡ ms →
    IsOver script mode budget (so ++ made) end ms fleet → IsOver script mode budget (so ++ now) end left fleet
over_lines script mode budget end so made now ms left fleet same too is =
    subst (λ (l : List Message). IsOver script mode budget (so ++ now) end l fleet) (sym too) (subst (λ (l : List Line). IsOver script mode budget (so ++ l) end ms fleet) (sym same) is)

stepped_by : (script : Script) (mode : Mode) (budget : ℕ) (so : SoFar) (machine new : Machine) (fleet : Fleet) (pace : Pace) (outcome : Outcome) → IsFleetRun script budget → Going script mode budget so None 1 machine fleet →
    step script mode budget so.state ≡ outcome → new ≡ after_pace machine outcome → pace ≡ pace_with outcome → Stepped script mode budget so new fleet pace
stepped_by script mode budget so machine new fleet pace (Done event None) run g is made paced = went event (went_comes script mode budget so None machine new fleet event g is made) paced
stepped_by script mode budget so machine new fleet pace (Done event (Some end)) run g is made paced =
    let now : new ≡ after_pace (going script mode budget so.state) (Done event (Some end)) = made ∙ ap (λ (m : Machine). after_pace m (Done event (Some end))) g.machine_is in
    is_over end (over_lines script mode budget end so.lines _ new.lines _ new.messages fleet (ap (λ (m : Machine). m.lines) now) (ap (λ (m : Machine). m.messages) now) (went_over script mode budget so machine fleet event end run g is)) paced
stepped_by script mode budget so machine new fleet pace (Needs waiting) run g is made paced = needed waiting (needs_comes script mode budget so None 1 machine new fleet waiting g is made) paced
stepped_by script mode budget so machine new fleet pace Ends run g is made paced =
    let now : new ≡ after_pace (going script mode budget so.state) Ends = made ∙ ap (λ (m : Machine). after_pace m Ends) g.machine_is in
    is_over ends.Idle (over_lines script mode budget ends.Idle so.lines _ new.lines _ new.messages fleet (ap (λ (m : Machine). m.lines) now) (ap (λ (m : Machine). m.messages) now) (idle_over script mode budget so 1 machine fleet run g is)) paced

step_of : (script : Script) (mode : Mode) (budget : ℕ) (st : State) (machine : Machine) → machine ≡ going script mode budget st → after_step machine ≡ after_pace machine (step script mode budget st)
step_of script mode budget st machine is = subst (λ (m : Machine). after_step m ≡ after_pace m (step script mode budget st)) (sym is) refl

pace_of_step : (script : Script) (mode : Mode) (budget : ℕ) (st : State) (machine : Machine) → machine ≡ going script mode budget st → pace_after machine ≡ pace_with (step script mode budget st)
pace_of_step script mode budget st machine is = subst (λ (m : Machine). pace_after m ≡ pace_with (step script mode budget st)) (sym is) refl

pub stepped : (script : Script) (mode : Mode) (budget : ℕ) (so : SoFar) (machine new : Machine) (fleet : Fleet) (pace : Pace) → IsFleetRun script budget → Going script mode budget so None 1 machine fleet →
    new ≡ after_step machine → pace ≡ pace_after machine → Stepped script mode budget so new fleet pace
stepped script mode budget so machine new fleet pace run g made paced =
    stepped_by script mode budget so machine new fleet pace (step script mode budget so.state) run g refl (made ∙ step_of script mode budget so.state machine g.machine_is) (paced ∙ pace_of_step script mode budget so.state machine g.machine_is)

coming_lines : (script : Script) (mode : Mode) (budget : ℕ) (so : SoFar) (all : List Line) (ms : List Message) (pending : Option Ending) (more : ℕ) (machine : Machine) (fleet : Fleet) → Coming script mode budget so all ms pending more machine fleet → machine.lines ≡ all
coming_lines script mode budget so all ms pending more machine fleet c = ap (λ (m : Machine). m.lines) c.machine_is

coming_messages : (script : Script) (mode : Mode) (budget : ℕ) (so : SoFar) (all : List Line) (ms : List Message) (pending : Option Ending) (more : ℕ) (machine : Machine) (fleet : Fleet) → Coming script mode budget so all ms pending more machine fleet → machine.messages ≡ ms
coming_messages script mode budget so all ms pending more machine fleet c = ap (λ (m : Machine). m.messages) c.machine_is

pub stepped_may : (script : Script) (mode : Mode) (budget : ℕ) (so : SoFar) (new : Machine) (fleet : Fleet) (pace : Pace) → Stepped script mode budget so new fleet pace → MayHand fleet new.messages
stepped_may script mode budget so new fleet pace (went event c is) = coming_may script mode budget (after_event so event) event.lines _ None 0 new fleet c
stepped_may script mode budget so new fleet pace (needed waiting c is) = coming_may script mode budget (after_need so waiting) [] _ None 1 new fleet c
stepped_may script mode budget so new fleet pace (is_over end o is) = over_may script mode budget (so.lines ++ new.lines) end new.messages fleet o

stepped_front : (script : Script) (mode : Mode) (budget : ℕ) (so : SoFar) (new : Machine) (fleet : Fleet) (pace : Pace) → IsFleetRun script budget → Stepped script mode budget so new fleet pace → IsFrontOf script mode budget (so.lines ++ new.lines)
stepped_front script mode budget so new fleet pace run (went event c is) =
    subst (λ (l : List Line). IsFrontOf script mode budget (so.lines ++ l)) (sym (coming_lines script mode budget (after_event so event) event.lines _ None 0 new fleet c)) (so_far_front script mode budget (after_event so event) run c.so_far)
stepped_front script mode budget so new fleet pace run (needed waiting c is) =
    subst (IsFrontOf script mode budget) (sym (append-nil so.lines) ∙ ap (λ (l : List Line). so.lines ++ l) (sym (coming_lines script mode budget (after_need so waiting) [] _ None 1 new fleet c))) (so_far_front script mode budget (after_need so waiting) run c.so_far)
stepped_front script mode budget so new fleet pace run (is_over end o is) = over_front script mode budget (so.lines ++ new.lines) end new.messages fleet o

pub coming_close : (script : Script) (mode : Mode) (budget : ℕ) (so : SoFar) (all : List Line) (ms : List Message) (pending : Option Ending) (more : ℕ) (machine : Machine) (fleet : Fleet) → Coming script mode budget so all ms pending more machine fleet → MayClose script fleet
coming_close script mode budget so all ms pending more machine fleet c = record { places = coming_waits script mode budget so all ms pending more machine fleet c; many = c.many }

pub over_close : (script : Script) (mode : Mode) (budget : ℕ) (all : List Line) (end : End) (ms : List Message) (fleet : Fleet) → IsOver script mode budget all end ms fleet → MayClose script fleet
over_close script mode budget all end ms fleet o = record {
  places = over_waits script mode budget all end ms fleet o;
  many = sym (length-map fleet.channels (λ (c : Channel). c.kind)) ∙ (ap (λ (ks : List Kind). length ks) o.kinds ∙ length-map script.devices (λ (d : Device). d.kind));
}

stepped_close : (script : Script) (mode : Mode) (budget : ℕ) (so : SoFar) (new : Machine) (fleet : Fleet) (pace : Pace) → Stepped script mode budget so new fleet pace → MayClose script fleet
stepped_close script mode budget so new fleet pace (went event c is) = coming_close script mode budget (after_event so event) event.lines _ None 0 new fleet c
stepped_close script mode budget so new fleet pace (needed waiting c is) = coming_close script mode budget (after_need so waiting) [] _ None 1 new fleet c
stepped_close script mode budget so new fleet pace (is_over end o is) = over_close script mode budget (so.lines ++ new.lines) end new.messages fleet o

-- its lines weren't written
pub step_breaks : (script : Script) (mode : Mode) (budget : ℕ) (so : SoFar) (machine : Machine) (fleet now : Fleet) (pace : Pace) (old new : Held) (failure : Unwritten) → IsFleetRun script budget →
    Stepped script mode budget so machine fleet pace → TookFront old new (text_of_lines machine.lines) failure → now ≡ fleet → BreaksOff script mode budget so failure now old new
step_breaks script mode budget so machine fleet now pace old new failure run s took same = record {
  before = [];
  lines = machine.lines;
  middle = old;
  front = stepped_front script mode budget so machine fleet pace run s;
  written = took_nothing old;
  unwritten = took;
  places = subst (MayClose script) (sym same) (stepped_close script mode budget so machine fleet pace s);
}

-- the host's memory ran out in it
pub breaks_here : (script : Script) (mode : Mode) (budget : ℕ) (so : SoFar) (pending : Option Ending) (more : ℕ) (machine : Machine) (fleet : Fleet) (held : Held) → IsFleetRun script budget →
    Going script mode budget so pending more machine fleet → BreaksOff script mode budget so failures.NoMemory fleet held held
breaks_here script mode budget so pending more machine fleet held run g = record {
  before = [];
  lines = [];
  middle = held;
  front = subst (IsFrontOf script mode budget) (sym (append-nil so.lines)) (so_far_front script mode budget so run g.so_far);
  written = took_nothing held;
  unwritten = unwritten held;
  places = coming_close script mode budget so [] [] pending more machine fleet g;
}

wrong : (pace one other : Pace) → pace ≡ one → pace ≡ other → one ≡ other
wrong pace one other is too = sym is ∙ too

-- it was passed on, and the run goes on
pub step_goes_on : (script : Script) (mode : Mode) (budget : ℕ) (so : SoFar) (machine now : Machine) (fleet next : Fleet) (pace : Pace) (old new : Held) →
    Stepped script mode budget so machine fleet pace → Took old new (text_of_lines machine.lines) → Hands fleet machine.messages next [] → now ≡ record machine { lines = []; messages = [] } → pace ≡ Went →
    GoesOn script mode budget so now next old new
step_goes_on script mode budget so machine now fleet next pace old new (went event c is) took h made paced = record {
  next = after_event so event;
  lines = event.lines;
  going = handed_going script mode budget (after_event so event) event.lines (messages event.state.objects.devices) None 0 machine now fleet next c
      (subst (λ (ms : List Message). Hands fleet ms next []) (coming_messages script mode budget (after_event so event) event.lines _ None 0 machine fleet c) h) made;
  more = refl;
  written = subst (λ (l : List Line). Took old new (text_of_lines l)) (coming_lines script mode budget (after_event so event) event.lines _ None 0 machine fleet c) took;
}
step_goes_on script mode budget so machine now fleet next pace old new (needed waiting c is) took h made paced = absurd (cc (wrong pace NeedsEnding Went is paced))
step_goes_on script mode budget so machine now fleet next pace old new (is_over end o is) took h made paced = absurd (cc (wrong pace (Over end) Went is paced))

same_end : (one other : End) → Over one ≡ Over other → one ≡ other
same_end one other is = cc is

-- and it is over
pub step_ends : (script : Script) (mode : Mode) (budget : ℕ) (so : SoFar) (machine : Machine) (fleet next : Fleet) (pace : Pace) (end : End) (old new : Held) →
    Stepped script mode budget so machine fleet pace → Took old new (text_of_lines machine.lines) → Hands fleet machine.messages next [] → pace ≡ Over end → EndsSo script mode budget so end next old new
step_ends script mode budget so machine fleet next pace end old new (went event c is) took h paced = absurd (cc (wrong pace Went (Over end) is paced))
step_ends script mode budget so machine fleet next pace end old new (needed waiting c is) took h paced = absurd (cc (wrong pace NeedsEnding (Over end) is paced))
step_ends script mode budget so machine fleet next pace end old new (is_over other o is) took h paced =
    let same : other ≡ end = same_end other end (wrong pace (Over other) (Over end) is paced) in
    record {
      lines = machine.lines;
      over = subst (λ (e : End). IsOver script mode budget (so.lines ++ machine.lines) e [] next) same (over_handed script mode budget (so.lines ++ machine.lines) other machine.messages fleet next o h);
      written = took;
    }

-- an ending is needed: the run is where it was, and has written no line
pub record Waits (script : Script) (mode : Mode) (budget : ℕ) (so : SoFar) (machine : Machine) (fleet : Fleet) (old new : Held) : Type 0 where
  pub waiting : State
  pub going : Going script mode budget (after_need so waiting) None 1 machine fleet
  pub written : Took old new (text_of_lines [])

pub step_waits : (script : Script) (mode : Mode) (budget : ℕ) (so : SoFar) (machine now : Machine) (fleet next : Fleet) (pace : Pace) (old new : Held) →
    Stepped script mode budget so machine fleet pace → Took old new (text_of_lines machine.lines) → Hands fleet machine.messages next [] → now ≡ record machine { lines = []; messages = [] } → pace ≡ NeedsEnding →
    Waits script mode budget so now next old new
step_waits script mode budget so machine now fleet next pace old new (went event c is) took h made paced = absurd (cc (wrong pace Went NeedsEnding is paced))
step_waits script mode budget so machine now fleet next pace old new (needed waiting c is) took h made paced = record {
  waiting = waiting;
  going = handed_going script mode budget (after_need so waiting) [] (messages waiting.objects.devices) None 1 machine now fleet next c
      (subst (λ (ms : List Message). Hands fleet ms next []) (coming_messages script mode budget (after_need so waiting) [] _ None 1 machine fleet c) h) made;
  written = subst (λ (l : List Line). Took old new (text_of_lines l)) (coming_lines script mode budget (after_need so waiting) [] _ None 1 machine fleet c) took;
}
step_waits script mode budget so machine now fleet next pace old new (is_over end o is) took h made paced = absurd (cc (wrong pace (Over end) NeedsEnding is paced))

-- then an ending is offered
pub waits_on : (script : Script) (mode : Mode) (budget : ℕ) (so : SoFar) (waiting : State) (machine : Machine) (fleet : Fleet) (old mid new : Held) → Took old mid (text_of_lines []) →
    GoesOn script mode budget (after_need so waiting) machine fleet mid new → GoesOn script mode budget so machine fleet old new
waits_on script mode budget so waiting machine fleet old mid new took g =
    record { next = g.next; lines = g.lines; going = g.going; more = g.more; written = took_lines old mid new [] g.lines took g.written }

pub waits_breaks : (script : Script) (mode : Mode) (budget : ℕ) (so : SoFar) (waiting : State) (failure : Unwritten) (fleet : Fleet) (old mid new : Held) → Took old mid (text_of_lines []) →
    BreaksOff script mode budget (after_need so waiting) failure fleet mid new → BreaksOff script mode budget so failure fleet old new
waits_breaks script mode budget so waiting failure fleet old mid new took b = record {
  before = b.before;
  lines = b.lines;
  middle = b.middle;
  front = b.front;
  written = took_lines old mid b.middle [] b.before took b.written;
  unwritten = b.unwritten;
  places = b.places;
}

-- ---- an ending is offered

pub dropped_goes_on : (script : Script) (mode : Mode) (budget : ℕ) (so : SoFar) (machine now : Machine) (old new : Fleet) (e : Ending) (held : Held) → Going script mode budget so (Some e) 1 machine old →
    now ≡ machine → new ≡ after_drop old e.device → GoesOn script mode budget so now new held held
dropped_goes_on script mode budget so machine now old new e held g same made = record {
  next = so;
  lines = [];
  going = subst (λ (f : Fleet). Going script mode budget so None 0 now f) (sym made) (subst (λ (m : Machine). Going script mode budget so None 0 m (after_drop old e.device)) (sym same)
      (fewer_going script mode budget so None machine (after_drop old e.device) (drops_going script mode budget so 1 machine old e g)));
  more = sym (append-nil so.lines);
  written = took_nothing held;
}

pub taken_goes_on : (script : Script) (mode : Mode) (budget : ℕ) (so : SoFar) (machine now : Machine) (fleet next : Fleet) (old new : Held) → TakenIn script mode budget so 1 machine fleet →
    Took old new (text_of_lines machine.lines) → Hands fleet machine.messages next [] → now ≡ record machine { lines = []; messages = [] } → GoesOn script mode budget so now next old new
taken_goes_on script mode budget so machine now fleet next old new t took h made =
    let after = after_ending so t.named t.event in
    record {
      next = after;
      lines = t.event.lines;
      going = fewer_going script mode budget after None now next (handed_going script mode budget after t.event.lines (messages t.event.state.objects.devices) None 1 machine now fleet next t.coming
          (subst (λ (ms : List Message). Hands fleet ms next []) (coming_messages script mode budget after t.event.lines _ None 1 machine fleet t.coming) h) made);
      more = refl;
      written = subst (λ (l : List Line). Took old new (text_of_lines l)) (coming_lines script mode budget after t.event.lines _ None 1 machine fleet t.coming) took;
    }

pub taken_breaks : (script : Script) (mode : Mode) (budget : ℕ) (so : SoFar) (machine : Machine) (fleet now : Fleet) (old new : Held) (failure : Unwritten) → IsFleetRun script budget → TakenIn script mode budget so 1 machine fleet →
    TookFront old new (text_of_lines machine.lines) failure → now ≡ fleet → BreaksOff script mode budget so failure now old new
taken_breaks script mode budget so machine fleet now old new failure run t took same =
    let after = after_ending so t.named t.event in
    record {
      before = [];
      lines = machine.lines;
      middle = old;
      front = subst (λ (l : List Line). IsFrontOf script mode budget (so.lines ++ l)) (sym (coming_lines script mode budget after t.event.lines _ None 1 machine fleet t.coming)) (so_far_front script mode budget after run t.coming.so_far);
      written = took_nothing old;
      unwritten = took;
      places = subst (MayClose script) (sym same) (coming_close script mode budget after t.event.lines _ None 1 machine fleet t.coming);
    }

-- ---- what the machine and the fleet say of an offer

pub offered : (old new : Fleet) (machine now : Machine) (e : Ending) (result : Result Bool OutOfMemory) (answer should : Bool) → OfferAnswers old new machine now e result → result ≡ Ok answer → answer ≡ should →
    OfferAnswers old new machine now e (Ok should)
offered old new machine now e result answer should is ok same = subst (OfferAnswers old new machine now e) (ok ∙ ap (λ (b : Bool). let r : Result Bool OutOfMemory = Ok b in r) same) is

pub offer_fails : (old new : Fleet) (machine now : Machine) (e : Ending) (result : Result Bool OutOfMemory) (error : OutOfMemory) → OfferAnswers old new machine now e result → result ≡ Err error → new ≡ old
offer_fails old new machine now e result error is err = let failed : OfferAnswers old new machine now e (Err error) = subst (OfferAnswers old new machine now e) err is in failed.0

pub offer_taken : (script : Script) (mode : Mode) (budget : ℕ) (so : SoFar) (machine now : Machine) (old new : Fleet) (e : Ending) → IsFleetRun script budget → Going script mode budget so (Some e) 1 machine old →
    OfferAnswers old new machine now e (Ok true) → TakenIn script mode budget so 1 now new
offer_taken script mode budget so machine now old new e run g is = subst (TakenIn script mode budget so 1 now) (sym is.2) (takes_coming script mode budget so 1 machine now old e run.runnable g is.0 is.1)

pub taken_may : (script : Script) (mode : Mode) (budget : ℕ) (so : SoFar) (machine : Machine) (fleet : Fleet) → TakenIn script mode budget so 1 machine fleet → MayHand fleet machine.messages
taken_may script mode budget so machine fleet t = coming_may script mode budget (after_ending so t.named t.event) t.event.lines _ None 1 machine fleet t.coming

pub taken_answers : (script : Script) (mode : Mode) (budget : ℕ) (so : SoFar) (machine now : Machine) (fleet next : Fleet) (old new : Held) (result : Result (Unit {0}) Unwritten) → IsFleetRun script budget →
    TakenIn script mode budget so 1 machine fleet → TakeAnswers old new (text_of_lines machine.lines) result → OnOk result (now ≡ record machine { lines = []; messages = [] }) → OnOk result (Hands fleet machine.messages next []) →
    OnErr result (next ≡ fleet) → StepAnswers script mode budget so now next old new result
taken_answers script mode budget so machine now fleet next old new (Ok done) run t took made h same = taken_goes_on script mode budget so machine now fleet next old new t took h made
taken_answers script mode budget so machine now fleet next old new (Err failure) run t took made h same = taken_breaks script mode budget so machine fleet next old new failure run t took same

pub drop_breaks : (script : Script) (mode : Mode) (budget : ℕ) (so : SoFar) (machine : Machine) (old new : Fleet) (e : Ending) (held : Held) → IsFleetRun script budget → Going script mode budget so (Some e) 1 machine old → new ≡ old →
    BreaksOff script mode budget so failures.NoMemory new held held
drop_breaks script mode budget so machine old new e held run g same =
    subst (λ (f : Fleet). BreaksOff script mode budget so failures.NoMemory f held held) (sym same) (breaks_here script mode budget so (Some e) 1 machine old held run g)

-- a device has a channel still
pub still_served : (d n : ℕ) (before now : Fleet) → (1 ≤ d) × (d ≤ length before.channels) → n ≡ d → length now.channels ≡ length before.channels → (1 ≤ n) × (n ≤ length now.channels)
still_served d n before now is same many = (omega (arith, is.0, same), omega (arith, is.1, same, many))

-- ---- a turn gives its answer

pub breaks_so : (script : Script) (mode : Mode) (budget : ℕ) (so : SoFar) (machine : Machine) (fleet : Fleet) (old new : Held) (failure : Unwritten) (result : Result (Option End) Unwritten) → IsErrAnd result (λ (f : Unwritten). f ≡ failure) →
    BreaksOff script mode budget so failure fleet old new → TurnAnswers script mode budget so machine fleet old new result
breaks_so script mode budget so machine fleet old new failure (Ok end) is b = absurd is
breaks_so script mode budget so machine fleet old new failure (Err other) is b = subst (λ (f : Unwritten). BreaksOff script mode budget so f fleet old new) (sym is) b

-- a machine that goes on has the script, the mode and the budget of its run
pub own_going : (script : Script) (mode : Mode) (budget : ℕ) (so : SoFar) (pending : Option Ending) (more : ℕ) (machine : Machine) (fleet : Fleet) → IsFleetRun script budget → Going script mode budget so pending more machine fleet →
    IsGoing machine.script machine.mode machine.budget pending more machine fleet
own_going script mode budget so pending more machine fleet run g =
    subst (λ (m : Machine). IsGoing m.script m.mode m.budget pending more machine fleet) (sym g.machine_is) (record { run = run; so = so; going = g })

pub own_step : (script : Script) (mode : Mode) (budget : ℕ) (so : SoFar) (e : Ending) (machine now : Machine) (fleet next : Fleet) (old new : Held) (result : Result (Unit {0}) Unwritten) → Going script mode budget so (Some e) 1 machine fleet →
    (Going machine.script machine.mode machine.budget so (Some e) 1 machine fleet → StepAnswers machine.script machine.mode machine.budget so now next old new result) → StepAnswers script mode budget so now next old new result
own_step script mode budget so e machine now fleet next old new result g answers =
    subst (λ (m : Machine). Going m.script m.mode m.budget so (Some e) 1 machine fleet → StepAnswers m.script m.mode m.budget so now next old new result) g.machine_is answers g

pub own_turn : (script : Script) (mode : Mode) (budget : ℕ) (so : SoFar) (machine now : Machine) (fleet next : Fleet) (old new : Held) (result : Result (Option End) Unwritten) → Going script mode budget so None 0 machine fleet →
    (Going machine.script machine.mode machine.budget so None 0 machine fleet → TurnAnswers machine.script machine.mode machine.budget so now next old new result) → TurnAnswers script mode budget so now next old new result
own_turn script mode budget so machine now fleet next old new result g answers =
    subst (λ (m : Machine). Going m.script m.mode m.budget so None 0 machine fleet → TurnAnswers m.script m.mode m.budget so now next old new result) g.machine_is answers g

pub waited_going : (script : Script) (mode : Mode) (budget : ℕ) (so : SoFar) (machine now : Machine) (old new : Fleet) (e : Ending) → Going script mode budget so None 1 machine old → Waited old new (Some e) → IsOfFleet old (Some e) → now ≡ machine →
    Going script mode budget so (Some e) 1 now new
waited_going script mode budget so machine now old new e g waited of same =
    subst (λ (m : Machine). Going script mode budget so (Some e) 1 m new) (sym same) (waits_going script mode budget so 1 machine old new (Some e) waited of g)

-- the answer of a turn, once its parts are known
pub turn_gives : (script : Script) (mode : Mode) (budget : ℕ) (so : SoFar) (machine : Machine) (fleet : Fleet) (old new : Held) (result : Result (Option End) Unwritten) (slot should : Option End) →
    TurnAnswers script mode budget so machine fleet old new result → result ≡ Ok slot → slot ≡ should → TurnAnswers script mode budget so machine fleet old new (Ok should)
turn_gives script mode budget so machine fleet old new result slot should answers is same =
    subst (TurnAnswers script mode budget so machine fleet old new) (is ∙ ap (λ (o : Option End). let r : Result (Option End) Unwritten = Ok o in r) same) answers

pub turn_fails : (script : Script) (mode : Mode) (budget : ℕ) (so : SoFar) (machine : Machine) (fleet : Fleet) (old new : Held) (result : Result (Option End) Unwritten) (failure : Unwritten) →
    TurnAnswers script mode budget so machine fleet old new result → result ≡ Err failure → BreaksOff script mode budget so failure fleet old new
turn_fails script mode budget so machine fleet old new result failure answers is =
    let failed : TurnAnswers script mode budget so machine fleet old new (Err failure) = subst (TurnAnswers script mode budget so machine fleet old new) is answers in failed
