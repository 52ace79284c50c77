-- The state of the machine: the parts that the kernel keeps, and what the script's bodies have come to.
use Rattle.std.specs.Prelude.{ℕ, zero, suc, ◌+◌, ◌-◌, ◌*◌, Bool, false, List, [], replicate, slice_set, pos}
use Rattle.std.specs.List.{slice_index_or}
use Rattle.tk_types.specs.declared.answer.Who.{Who}
use Rattle.tk_types.specs.declared.answer.Who.TheVariants as whos
use Rattle.tk_types.specs.declared.script.Script.{Script}
use Rattle.tk_types.specs.declared.run.Frame.{Frame}
use Rattle.tk_types.specs.declared.task.Event.{Event as DueKind}
use Rattle.kernel_model.specs.Tasks.Base.{Base, base_start}
use Rattle.kernel_model.specs.Bodies.Statements.{memory_size, start_frame}
use Rattle.context_model.specs.Contexts.Tables.{depth_in}
use Rattle.context_model.specs.Hooks.Tables.{Hooks, hooks_start}
use Rattle.device_model.specs.Devices.Handing.{emptied}
use Rattle.machine_model.specs.States.Objects.{Objects, Parts, objects_start}

pub record State : Type 0 where
  pub base : Base
  pub objects : Objects
  pub bodies : List ℕ  -- by task: the body that a start begins, 256 places
  pub frames : List Frame  -- by task: the frame that acts, 256 places; place 0 is the running handler's
  pub saved : List Frame  -- eight places for each task: frames that wait for a service's return, the outermost first
  pub memory : List ℕ  -- the script's memory, 65,536 bytes
  pub due : List DueKind  -- handlers that fell due and haven't started, in the order in which they did
  pub pending : List ℕ  -- interrupts that are pending, each once, the least first
  pub ticks : ℕ  -- ticks that are pending
  pub hooks : Hooks
  pub halted : Bool  -- whether `halt` was done
  pub steps : ℕ  -- steps done

-- ---- what settling may change, and back

abbrev pub parts_of : State → Parts
parts_of st = record { base = st.base; objects = st.objects; memory = st.memory }

abbrev pub with_parts : State → Parts → State
with_parts st p = record st { base = p.base; objects = p.objects; memory = p.memory }

-- ---- messages to drivers

-- those that waited to be taken were taken
abbrev pub taken : State → State
taken st = record st { objects = record st.objects { devices = emptied st.objects.devices } }

-- ---- frames

-- the frame of no body
abbrev pub no_frame : Frame
no_frame = start_frame 0 (pos 0) (pos 0)

-- who acts in the frame with a number: the running handler in 0, and a task in each other one
abbrev pub who_of : ℕ → Who
who_of zero = whos.Handler
who_of (suc t) = whos.Task (suc t)

abbrev pub frame_of : State → ℕ → Frame
frame_of st t = slice_index_or st.frames t no_frame

abbrev pub with_frame : State → ℕ → Frame → State
with_frame st t frame = record st { frames = slice_set st.frames t frame }

-- where the frame that called the service of a nesting is saved
abbrev pub save_place : ℕ → ℕ → ℕ
save_place t depth = 8 * t + (depth - 1)

-- the frame that waits for the return of a task's innermost service
abbrev pub saved_frame : State → ℕ → Frame
saved_frame st t = slice_index_or st.saved (save_place t (depth_in st.objects.contexts t)) no_frame

-- task 1 begins the boot body
unfoldable pub state_start : Script → State
state_start script = record {
  base = base_start script.boot.priority;
  objects = objects_start script;
  bodies = slice_set (replicate 256 0) 1 script.boot.body;
  frames = slice_set (replicate 256 no_frame) 1 (start_frame script.boot.body (pos 0) (pos 0));
  saved = replicate 2048 no_frame;
  memory = replicate memory_size 0;
  due = [];
  pending = [];
  ticks = 0;
  hooks = hooks_start;
  halted = false;
  steps = 0;
}
