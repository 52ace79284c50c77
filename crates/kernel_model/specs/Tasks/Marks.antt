-- Which calls a handler may not make, and which need dispatching to be enabled.
use Rattle.std.specs.Prelude.{Bool, true, false, not, ◌&&◌, ◌||◌}
use Rattle.tk_types.specs.declared.answer.Who.{Who}
use Rattle.tk_types.specs.declared.answer.Who.TheVariants as whos
use Rattle.tk_types.specs.declared.call_name.CallName.{CallName}
use Rattle.tk_types.specs.declared.call_name.CallName.TheVariants as names
use Rattle.tk_types.specs.declared.calls.Call.{Call}
use Rattle.tk_types.specs.declared.task.Flags.{Flags}
use Rattle.tk_types.specs.Calls.{name_of}
use Rattle.kernel_model.specs.declared.marks.Mark.{Mark}
use Rattle.kernel_model.specs.declared.marks.Mark.TheVariants.{MayWait, NeedsTask, Free}
use Rattle.kernel_model.specs.Tasks.Base.{Base}

-- the mark that the table of calls gives a call
unfoldable pub mark_of : CallName → Mark
mark_of names.TkSlpTsk = MayWait
mark_of names.TkDlyTsk = MayWait
mark_of names.TkWaiSem = MayWait
mark_of names.TkWaiFlg = MayWait
mark_of names.TkLocMtx = MayWait
mark_of names.TkUnlMtx = NeedsTask
mark_of names.TkRcvMbx = MayWait
mark_of names.TkSndMbf = MayWait
mark_of names.TkRcvMbf = MayWait
mark_of names.TkGetMpf = MayWait
mark_of names.TkGetMpl = MayWait
mark_of names.TkDisDsp = NeedsTask
mark_of names.TkEnaDsp = NeedsTask
mark_of names.Di = NeedsTask
mark_of names.Ei = NeedsTask
mark_of names.Svc = NeedsTask
mark_of names.TkReaDev = MayWait
mark_of names.TkWriDev = MayWait
mark_of names.TkSreaDev = MayWait
mark_of names.TkSwriDev = MayWait
mark_of names.TkWaiDev = MayWait
mark_of names.TkClsDev = MayWait
mark_of names.TkSusDev = MayWait
mark_of _ = Free

abbrev pub is_task : Who → Bool
is_task (whos.Task t) = true
is_task whos.Handler = false

abbrev pub allows : Flags → Who → Mark → Bool
allows flags who MayWait = is_task who && not (flags.dispatch_off || flags.di)
allows flags who NeedsTask = is_task who
allows flags who Free = true

-- whether a call may be made: false is the cause of E_CTX by its mark
unfoldable pub allowed : Base → Who → Call → Bool
allowed b who call = allows b.flags who (mark_of (name_of call))
