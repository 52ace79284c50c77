-- The generator of scripts: the script with a number, and the line that sums up its run.
use Rattle.std.specs.Prelude.{ℕ, zero, suc, ◌+◌, ◌*◌, ◌/◌, ◌%◌, ◌^◌, ◌==◌, Bool, true, false, if◌then◌else◌, pos, List, [], ◌∷◌, ◌++◌, None, codes, count_by, decimal, drop, slice_index, take}
use Rattle.tk_types.specs.declared.call_name.CallName.TheVariants as names
use Rattle.tk_types.specs.declared.line.Line.{Line}
use Rattle.tk_types.specs.declared.line.Line.TheVariants as lines
use Rattle.tk_types.specs.declared.script.Script.{Script}
use Rattle.tk_types.specs.declared.script.Body.{Body}
use Rattle.tk_types.specs.declared.script.BodyKind.TheVariants as bodies
use Rattle.tk_types.specs.declared.script.Kind.TheVariants as devices
use Rattle.tk_types.specs.declared.script.Stmt.{Stmt}
use Rattle.tk_types.specs.declared.script.Stmt.TheVariants as stmts
use Rattle.tk_types.specs.declared.script.Arg.{Arg}
use Rattle.tk_types.specs.declared.script.Arg.TheVariants as args
use Rattle.machine_model.specs.Runs.Trace.{Trace}

-- ---- draws

-- the number behind one of the generator's
abbrev pub drawn : ℕ → ℕ
drawn x = (1103515245 * x + 12345) % (2 ^ 31)

-- so many draws from a number on
unfoldable pub draws : ℕ → ℕ → List ℕ
draws zero x = []
draws (suc left) x = let next : ℕ = drawn x in next / 65536 ∷ draws left next

-- ---- the script

abbrev number : ℕ → Arg
number n = args.Number (pos n)

-- task k, of 100, begins the body with its number behind that of the boot body
abbrev making : ℕ → ℕ → List Stmt
making k draw =
    stmts.Call names.TkCreTsk (args.List 0 ∷ args.Body (k + 1) ∷ number (1 + draw % 100) ∷ number 256 ∷ [])
    ∷ stmts.Call names.TkStaTsk (number (k + 1) ∷ number 0 ∷ [])
    ∷ []

-- the tasks from this one on are made and started, each with a draw for its priority
unfoldable pub making_from : ℕ → List ℕ → List Stmt
making_from k [] = []
making_from k (draw ∷ later) = making k draw ++ making_from (k + 1) later

-- the boot body: a semaphore, a mutex, a message buffer, the device, and the tasks
abbrev pub main_statements : List ℕ → List Stmt
main_statements priorities =
    stmts.Call names.TkCreSem (args.List 0 ∷ number 4 ∷ number 100 ∷ [])
    ∷ stmts.Call names.TkCreMtx (args.List (2 ^ 14) ∷ number 0 ∷ [])
    ∷ stmts.Call names.TkCreMbf (args.List 0 ∷ number 1024 ∷ number 32 ∷ [])
    ∷ stmts.Call names.TkOpnDev (args.Name (codes "d1") ∷ args.List (2 ^ 2) ∷ [])
    ∷ making_from 1 priorities

-- a statement of a task, by two draws: which of eight calls, and a number for it
abbrev pub drawn_call : ℕ → ℕ → Stmt
drawn_call call a =
    if call == 0 then stmts.Call names.TkSigSem (number 1 ∷ number 1 ∷ [])
    else (if call == 1 then stmts.Call names.TkWaiSem (number 1 ∷ number 1 ∷ number a ∷ [])
    else (if call == 2 then stmts.Call names.TkLocMtx (number 1 ∷ number a ∷ [])
    else (if call == 3 then stmts.Call names.TkUnlMtx (number 1 ∷ [])
    else (if call == 4 then stmts.Call names.TkSndMbf (number 1 ∷ number 0 ∷ number 8 ∷ number a ∷ [])
    else (if call == 5 then stmts.Call names.TkRcvMbf (number 1 ∷ number 64 ∷ number a ∷ [])
    else (if call == 6 then stmts.Call names.TkDlyTsk (number a ∷ [])
    else stmts.Call names.TkSwriDev (number 1 ∷ number a ∷ number 0 ∷ number 16 ∷ [])))))))

-- so many statements, two draws each
unfoldable pub drawn_statements : ℕ → List ℕ → List Stmt
drawn_statements zero list = []
drawn_statements (suc left) list = drawn_call (slice_index list 0 % 8) (slice_index list 1 % 16) ∷ drawn_statements left (drop 2 list)

-- the bodies of so many tasks from this one on, with 40 statements each
unfoldable pub drawn_bodies : ℕ → ℕ → List ℕ → List Body
drawn_bodies zero k list = []
drawn_bodies (suc left) k list =
    record { name = codes "w" ++ decimal k; kind = bodies.Task; labels = []; stmts = drawn_statements 40 list }
    ∷ drawn_bodies left (k + 1) (drop 80 list)

abbrev script_of : List ℕ → Script
script_of list = record {
  devices = record { name = codes "d1"; kind = devices.Ram 4096 } ∷ [];
  pace = None;
  irqs = [];
  boot = record { body = 1; priority = 120 };
  bodies = record { name = codes "main"; kind = bodies.Task; labels = []; stmts = main_statements (take 100 list) } ∷ drawn_bodies 100 1 (drop 100 list);
}

-- the script with a number: 100 draws for priorities, and 80 for each of the 100 tasks
unfoldable pub generated : ℕ → Script
generated number = script_of (draws 8100 number)

-- ---- the line that sums up a run

abbrev is_call : Line → Bool
is_call (lines.Returned n who call answer) = true
is_call _ = false

abbrev is_wait : Line → Bool
is_wait (lines.Blocked n task call) = true
is_wait _ = false

abbrev is_tick : Line → Bool
is_tick (lines.Tick n time) = true
is_tick _ = false

abbrev is_ending : Line → Bool
is_ending (lines.Ending n device request ending) = true
is_ending _ = false

-- how many lines of a run are of a kind, in digits
abbrev counted_lines : (Line → Bool) → Trace → List ℕ
counted_lines passes trace = decimal (count_by passes trace.lines)

-- the steps of a run, and how often a call returned, a task waited, a tick passed and a request ended
unfoldable pub summary : ℕ → Trace → List ℕ
summary number trace =
    codes "gen " ++ decimal number
    ++ codes " steps " ++ decimal trace.steps
    ++ codes " calls " ++ counted_lines is_call trace
    ++ codes " waits " ++ counted_lines is_wait trace
    ++ codes " ticks " ++ counted_lines is_tick trace
    ++ codes " endings " ++ counted_lines is_ending trace
    ++ codes "\n"
