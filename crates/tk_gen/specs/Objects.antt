-- What a generated script is made of.
use Rattle.std.specs.Prelude.{ℕ, ◌^◌, codes, drop, pos, take, List, [], ◌∷◌}
use Rattle.tk_types.specs.declared.call_name.CallName.TheVariants as names
use Rattle.tk_types.specs.declared.script.Arg.TheVariants as args
use Rattle.tk_types.specs.declared.script.Body.{Body}
use Rattle.tk_types.specs.declared.script.BodyKind.TheVariants as kinds
use Rattle.tk_types.specs.declared.script.Device.{Device}
use Rattle.tk_types.specs.declared.script.Kind.TheVariants as devices
use Rattle.tk_types.specs.declared.script.Stmt.{Stmt}
use Rattle.tk_types.specs.declared.script.Stmt.TheVariants as stmts
use Rattle.machine_model.specs.Runs.Generator.{drawn_bodies, main_statements}

-- the objects that its tasks share: a semaphore, a mutex and a message buffer, and the device with a name is opened
abbrev pub objects_made : List ℕ → List Stmt
objects_made device =
    stmts.Call names.TkCreSem (args.List 0 ∷ args.Number (pos 4) ∷ args.Number (pos 100) ∷ [])
    ∷ stmts.Call names.TkCreMtx (args.List (2 ^ 14) ∷ args.Number (pos 0) ∷ [])
    ∷ stmts.Call names.TkCreMbf (args.List 0 ∷ args.Number (pos 1024) ∷ args.Number (pos 32) ∷ [])
    ∷ stmts.Call names.TkOpnDev (args.Name device ∷ args.List (2 ^ 2) ∷ [])
    ∷ []

-- its one device
abbrev pub the_device : Device
the_device = record { name = codes "d1"; kind = devices.Ram 4096 }

-- the bodies: that of the boot task, with 100 draws for priorities, and those of 100 tasks
abbrev pub bodies_of : List ℕ → List Body
bodies_of list =
    record { name = codes "main"; kind = kinds.Task; labels = []; stmts = main_statements (take 100 list) } ∷ drawn_bodies 100 1 (drop 100 list)
