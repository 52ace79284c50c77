-- How a call is made of its name and the values in its places, and which name a call has.
use Rattle.std.specs.Prelude.{ℕ, List, ◌%◌, slice_index}
use Rattle.std.specs.Int.{w32, cast_signed}
use Rattle.tk_types.specs.Modes.{attributes_of, flag_mode_of, open_mode_of, suspend_mode_of}
use Rattle.tk_types.specs.declared.call_name.CallName.{CallName}
use Rattle.tk_types.specs.declared.call_name.CallName.TheVariants as names
use Rattle.tk_types.specs.declared.calls.Call.{Call}
use Rattle.tk_types.specs.declared.calls.Call.TheVariants.{Task, SemFlag, Mutex, Mail, Pool, Time, Context, Device, Hook}
use Rattle.tk_types.specs.declared.calls.TaskCall.{TaskCall}
use Rattle.tk_types.specs.declared.calls.TaskCall.TheVariants as task
use Rattle.tk_types.specs.declared.calls.SemFlagCall.{SemFlagCall}
use Rattle.tk_types.specs.declared.calls.SemFlagCall.TheVariants as semflag
use Rattle.tk_types.specs.declared.calls.MutexCall.{MutexCall}
use Rattle.tk_types.specs.declared.calls.MutexCall.TheVariants as mutex
use Rattle.tk_types.specs.declared.calls.MailCall.{MailCall}
use Rattle.tk_types.specs.declared.calls.MailCall.TheVariants as mail
use Rattle.tk_types.specs.declared.calls.PoolCall.{PoolCall}
use Rattle.tk_types.specs.declared.calls.PoolCall.TheVariants as pool
use Rattle.tk_types.specs.declared.calls.TimeCall.{TimeCall}
use Rattle.tk_types.specs.declared.calls.TimeCall.TheVariants as times
use Rattle.tk_types.specs.declared.calls.ContextCall.{ContextCall}
use Rattle.tk_types.specs.declared.calls.ContextCall.TheVariants as context
use Rattle.tk_types.specs.declared.calls.DeviceCall.{DeviceCall}
use Rattle.tk_types.specs.declared.calls.DeviceCall.TheVariants as device
use Rattle.tk_types.specs.declared.calls.HookCall.{HookCall}
use Rattle.tk_types.specs.declared.calls.HookCall.TheVariants as hook

-- the call of that name with these values
unfoldable pub made : CallName → List ℕ → Call
made names.TkCreTsk args = Task (task.CreTsk (attributes_of (slice_index args 0)) (slice_index args 1 % 256) (cast_signed w32 (slice_index args 2)) (cast_signed w32 (slice_index args 3)))
made names.TkDelTsk args = Task (task.DelTsk (cast_signed w32 (slice_index args 0)))
made names.TkStaTsk args = Task (task.StaTsk (cast_signed w32 (slice_index args 0)) (cast_signed w32 (slice_index args 1)))
made names.TkExtTsk args = Task task.ExtTsk
made names.TkExdTsk args = Task task.ExdTsk
made names.TkTerTsk args = Task (task.TerTsk (cast_signed w32 (slice_index args 0)))
made names.TkChgPri args = Task (task.ChgPri (cast_signed w32 (slice_index args 0)) (cast_signed w32 (slice_index args 1)))
made names.TkRotRdq args = Task (task.RotRdq (cast_signed w32 (slice_index args 0)))
made names.TkGetTid args = Task task.GetTid
made names.TkRefTsk args = Task (task.RefTsk (cast_signed w32 (slice_index args 0)))
made names.TkSlpTsk args = Task (task.SlpTsk (cast_signed w32 (slice_index args 0)))
made names.TkWupTsk args = Task (task.WupTsk (cast_signed w32 (slice_index args 0)))
made names.TkCanWup args = Task (task.CanWup (cast_signed w32 (slice_index args 0)))
made names.TkRelWai args = Task (task.RelWai (cast_signed w32 (slice_index args 0)))
made names.TkSusTsk args = Task (task.SusTsk (cast_signed w32 (slice_index args 0)))
made names.TkRsmTsk args = Task (task.RsmTsk (cast_signed w32 (slice_index args 0)))
made names.TkFrsmTsk args = Task (task.FrsmTsk (cast_signed w32 (slice_index args 0)))
made names.TkDlyTsk args = Task (task.DlyTsk (cast_signed w32 (slice_index args 0)))
made names.TkCreSem args = SemFlag (semflag.CreSem (attributes_of (slice_index args 0)) (cast_signed w32 (slice_index args 1)) (cast_signed w32 (slice_index args 2)))
made names.TkSigSem args = SemFlag (semflag.SigSem (cast_signed w32 (slice_index args 0)) (cast_signed w32 (slice_index args 1)))
made names.TkWaiSem args = SemFlag (semflag.WaiSem (cast_signed w32 (slice_index args 0)) (cast_signed w32 (slice_index args 1)) (cast_signed w32 (slice_index args 2)))
made names.TkRefSem args = SemFlag (semflag.RefSem (cast_signed w32 (slice_index args 0)))
made names.TkCreFlg args = SemFlag (semflag.CreFlg (attributes_of (slice_index args 0)) (cast_signed w32 (slice_index args 1)))
made names.TkSetFlg args = SemFlag (semflag.SetFlg (cast_signed w32 (slice_index args 0)) (cast_signed w32 (slice_index args 1)))
made names.TkClrFlg args = SemFlag (semflag.ClrFlg (cast_signed w32 (slice_index args 0)) (cast_signed w32 (slice_index args 1)))
made names.TkWaiFlg args = SemFlag (semflag.WaiFlg (cast_signed w32 (slice_index args 0)) (cast_signed w32 (slice_index args 1)) (flag_mode_of (slice_index args 2)) (cast_signed w32 (slice_index args 3)))
made names.TkRefFlg args = SemFlag (semflag.RefFlg (cast_signed w32 (slice_index args 0)))
made names.TkDelSem args = SemFlag (semflag.DelSem (cast_signed w32 (slice_index args 0)))
made names.TkDelFlg args = SemFlag (semflag.DelFlg (cast_signed w32 (slice_index args 0)))
made names.TkCreMtx args = Mutex (mutex.CreMtx (attributes_of (slice_index args 0)) (cast_signed w32 (slice_index args 1)))
made names.TkLocMtx args = Mutex (mutex.LocMtx (cast_signed w32 (slice_index args 0)) (cast_signed w32 (slice_index args 1)))
made names.TkUnlMtx args = Mutex (mutex.UnlMtx (cast_signed w32 (slice_index args 0)))
made names.TkRefMtx args = Mutex (mutex.RefMtx (cast_signed w32 (slice_index args 0)))
made names.TkDelMtx args = Mutex (mutex.DelMtx (cast_signed w32 (slice_index args 0)))
made names.TkCreMbx args = Mail (mail.CreMbx (attributes_of (slice_index args 0)))
made names.TkDelMbx args = Mail (mail.DelMbx (cast_signed w32 (slice_index args 0)))
made names.TkSndMbx args = Mail (mail.SndMbx (cast_signed w32 (slice_index args 0)) (cast_signed w32 (slice_index args 1)) (cast_signed w32 (slice_index args 2)))
made names.TkRcvMbx args = Mail (mail.RcvMbx (cast_signed w32 (slice_index args 0)) (cast_signed w32 (slice_index args 1)))
made names.TkRefMbx args = Mail (mail.RefMbx (cast_signed w32 (slice_index args 0)))
made names.TkCreMbf args = Mail (mail.CreMbf (attributes_of (slice_index args 0)) (cast_signed w32 (slice_index args 1)) (cast_signed w32 (slice_index args 2)))
made names.TkSndMbf args = Mail (mail.SndMbf (cast_signed w32 (slice_index args 0)) (cast_signed w32 (slice_index args 1)) (cast_signed w32 (slice_index args 2)) (cast_signed w32 (slice_index args 3)))
made names.TkRcvMbf args = Mail (mail.RcvMbf (cast_signed w32 (slice_index args 0)) (cast_signed w32 (slice_index args 1)) (cast_signed w32 (slice_index args 2)))
made names.TkRefMbf args = Mail (mail.RefMbf (cast_signed w32 (slice_index args 0)))
made names.TkDelMbf args = Mail (mail.DelMbf (cast_signed w32 (slice_index args 0)))
made names.TkCreMpf args = Pool (pool.CreMpf (attributes_of (slice_index args 0)) (cast_signed w32 (slice_index args 1)) (cast_signed w32 (slice_index args 2)))
made names.TkDelMpf args = Pool (pool.DelMpf (cast_signed w32 (slice_index args 0)))
made names.TkGetMpf args = Pool (pool.GetMpf (cast_signed w32 (slice_index args 0)) (cast_signed w32 (slice_index args 1)))
made names.TkRelMpf args = Pool (pool.RelMpf (cast_signed w32 (slice_index args 0)) (cast_signed w32 (slice_index args 1)))
made names.TkRefMpf args = Pool (pool.RefMpf (cast_signed w32 (slice_index args 0)))
made names.TkCreMpl args = Pool (pool.CreMpl (attributes_of (slice_index args 0)) (cast_signed w32 (slice_index args 1)))
made names.TkDelMpl args = Pool (pool.DelMpl (cast_signed w32 (slice_index args 0)))
made names.TkGetMpl args = Pool (pool.GetMpl (cast_signed w32 (slice_index args 0)) (cast_signed w32 (slice_index args 1)) (cast_signed w32 (slice_index args 2)))
made names.TkRelMpl args = Pool (pool.RelMpl (cast_signed w32 (slice_index args 0)) (cast_signed w32 (slice_index args 1)))
made names.TkRefMpl args = Pool (pool.RefMpl (cast_signed w32 (slice_index args 0)))
made names.TkSetTim args = Time (times.SetTim (cast_signed w32 (slice_index args 0)) (cast_signed w32 (slice_index args 1)))
made names.TkGetTim args = Time times.GetTim
made names.TkGetOtm args = Time times.GetOtm
made names.TkCreCyc args = Time (times.CreCyc (attributes_of (slice_index args 0)) (slice_index args 1 % 256) (cast_signed w32 (slice_index args 2)) (cast_signed w32 (slice_index args 3)))
made names.TkStaCyc args = Time (times.StaCyc (cast_signed w32 (slice_index args 0)))
made names.TkStpCyc args = Time (times.StpCyc (cast_signed w32 (slice_index args 0)))
made names.TkDelCyc args = Time (times.DelCyc (cast_signed w32 (slice_index args 0)))
made names.TkRefCyc args = Time (times.RefCyc (cast_signed w32 (slice_index args 0)))
made names.TkCreAlm args = Time (times.CreAlm (attributes_of (slice_index args 0)) (slice_index args 1 % 256))
made names.TkStaAlm args = Time (times.StaAlm (cast_signed w32 (slice_index args 0)) (cast_signed w32 (slice_index args 1)))
made names.TkStpAlm args = Time (times.StpAlm (cast_signed w32 (slice_index args 0)))
made names.TkDelAlm args = Time (times.DelAlm (cast_signed w32 (slice_index args 0)))
made names.TkRefAlm args = Time (times.RefAlm (cast_signed w32 (slice_index args 0)))
made names.TkDefInt args = Context (context.DefInt (cast_signed w32 (slice_index args 0)) (slice_index args 1 % 256))
made names.TkDisDsp args = Context context.DisDsp
made names.TkEnaDsp args = Context context.EnaDsp
made names.Di args = Context context.Di
made names.Ei args = Context context.Ei
made names.TkRefSys args = Context context.RefSys
made names.TkDefSsy args = Context (context.DefSsy (cast_signed w32 (slice_index args 0)) (slice_index args 1 % 256))
made names.TkRefSsy args = Context (context.RefSsy (cast_signed w32 (slice_index args 0)))
made names.Svc args = Context (context.Svc (cast_signed w32 (slice_index args 0)) (cast_signed w32 (slice_index args 1)))
made names.TkOpnDev args = Device (device.OpnDev (slice_index args 0 % 256) (open_mode_of (slice_index args 1)))
made names.TkReaDev args = Device (device.ReaDev (cast_signed w32 (slice_index args 0)) (cast_signed w32 (slice_index args 1)) (cast_signed w32 (slice_index args 2)) (cast_signed w32 (slice_index args 3)) (cast_signed w32 (slice_index args 4)))
made names.TkWriDev args = Device (device.WriDev (cast_signed w32 (slice_index args 0)) (cast_signed w32 (slice_index args 1)) (cast_signed w32 (slice_index args 2)) (cast_signed w32 (slice_index args 3)) (cast_signed w32 (slice_index args 4)))
made names.TkSreaDev args = Device (device.SreaDev (cast_signed w32 (slice_index args 0)) (cast_signed w32 (slice_index args 1)) (cast_signed w32 (slice_index args 2)) (cast_signed w32 (slice_index args 3)))
made names.TkSwriDev args = Device (device.SwriDev (cast_signed w32 (slice_index args 0)) (cast_signed w32 (slice_index args 1)) (cast_signed w32 (slice_index args 2)) (cast_signed w32 (slice_index args 3)))
made names.TkWaiDev args = Device (device.WaiDev (cast_signed w32 (slice_index args 0)) (cast_signed w32 (slice_index args 1)) (cast_signed w32 (slice_index args 2)))
made names.TkClsDev args = Device (device.ClsDev (cast_signed w32 (slice_index args 0)))
made names.TkSusDev args = Device (device.SusDev (suspend_mode_of (slice_index args 0)))
made names.TkRefDev args = Device (device.RefDev (slice_index args 0 % 256))
made names.TdLstTsk args = Hook (hook.LstTsk (cast_signed w32 (slice_index args 0)) (cast_signed w32 (slice_index args 1)))
made names.TdLstSem args = Hook (hook.LstSem (cast_signed w32 (slice_index args 0)) (cast_signed w32 (slice_index args 1)))
made names.TdLstFlg args = Hook (hook.LstFlg (cast_signed w32 (slice_index args 0)) (cast_signed w32 (slice_index args 1)))
made names.TdLstMbx args = Hook (hook.LstMbx (cast_signed w32 (slice_index args 0)) (cast_signed w32 (slice_index args 1)))
made names.TdLstMtx args = Hook (hook.LstMtx (cast_signed w32 (slice_index args 0)) (cast_signed w32 (slice_index args 1)))
made names.TdLstMbf args = Hook (hook.LstMbf (cast_signed w32 (slice_index args 0)) (cast_signed w32 (slice_index args 1)))
made names.TdLstMpf args = Hook (hook.LstMpf (cast_signed w32 (slice_index args 0)) (cast_signed w32 (slice_index args 1)))
made names.TdLstMpl args = Hook (hook.LstMpl (cast_signed w32 (slice_index args 0)) (cast_signed w32 (slice_index args 1)))
made names.TdLstCyc args = Hook (hook.LstCyc (cast_signed w32 (slice_index args 0)) (cast_signed w32 (slice_index args 1)))
made names.TdLstAlm args = Hook (hook.LstAlm (cast_signed w32 (slice_index args 0)) (cast_signed w32 (slice_index args 1)))
made names.TdLstSsy args = Hook (hook.LstSsy (cast_signed w32 (slice_index args 0)) (cast_signed w32 (slice_index args 1)))
made names.TdRdyQue args = Hook (hook.RdyQue (cast_signed w32 (slice_index args 0)) (cast_signed w32 (slice_index args 1)) (cast_signed w32 (slice_index args 2)))
made names.TdSemQue args = Hook (hook.SemQue (cast_signed w32 (slice_index args 0)) (cast_signed w32 (slice_index args 1)) (cast_signed w32 (slice_index args 2)))
made names.TdFlgQue args = Hook (hook.FlgQue (cast_signed w32 (slice_index args 0)) (cast_signed w32 (slice_index args 1)) (cast_signed w32 (slice_index args 2)))
made names.TdMbxQue args = Hook (hook.MbxQue (cast_signed w32 (slice_index args 0)) (cast_signed w32 (slice_index args 1)) (cast_signed w32 (slice_index args 2)))
made names.TdMtxQue args = Hook (hook.MtxQue (cast_signed w32 (slice_index args 0)) (cast_signed w32 (slice_index args 1)) (cast_signed w32 (slice_index args 2)))
made names.TdSmbfQue args = Hook (hook.SmbfQue (cast_signed w32 (slice_index args 0)) (cast_signed w32 (slice_index args 1)) (cast_signed w32 (slice_index args 2)))
made names.TdRmbfQue args = Hook (hook.RmbfQue (cast_signed w32 (slice_index args 0)) (cast_signed w32 (slice_index args 1)) (cast_signed w32 (slice_index args 2)))
made names.TdMpfQue args = Hook (hook.MpfQue (cast_signed w32 (slice_index args 0)) (cast_signed w32 (slice_index args 1)) (cast_signed w32 (slice_index args 2)))
made names.TdMplQue args = Hook (hook.MplQue (cast_signed w32 (slice_index args 0)) (cast_signed w32 (slice_index args 1)) (cast_signed w32 (slice_index args 2)))
made names.TdHokSvc args = Hook (hook.HokSvc (cast_signed w32 (slice_index args 0)))
made names.TdHokDsp args = Hook (hook.HokDsp (cast_signed w32 (slice_index args 0)))
made names.TdHokInt args = Hook (hook.HokInt (cast_signed w32 (slice_index args 0)))

unfoldable pub task_call_name : TaskCall → CallName
task_call_name (task.CreTsk _ _ _ _) = names.TkCreTsk
task_call_name (task.DelTsk _) = names.TkDelTsk
task_call_name (task.StaTsk _ _) = names.TkStaTsk
task_call_name task.ExtTsk = names.TkExtTsk
task_call_name task.ExdTsk = names.TkExdTsk
task_call_name (task.TerTsk _) = names.TkTerTsk
task_call_name (task.ChgPri _ _) = names.TkChgPri
task_call_name (task.RotRdq _) = names.TkRotRdq
task_call_name task.GetTid = names.TkGetTid
task_call_name (task.RefTsk _) = names.TkRefTsk
task_call_name (task.SlpTsk _) = names.TkSlpTsk
task_call_name (task.WupTsk _) = names.TkWupTsk
task_call_name (task.CanWup _) = names.TkCanWup
task_call_name (task.RelWai _) = names.TkRelWai
task_call_name (task.SusTsk _) = names.TkSusTsk
task_call_name (task.RsmTsk _) = names.TkRsmTsk
task_call_name (task.FrsmTsk _) = names.TkFrsmTsk
task_call_name (task.DlyTsk _) = names.TkDlyTsk

unfoldable pub sem_flag_call_name : SemFlagCall → CallName
sem_flag_call_name (semflag.CreSem _ _ _) = names.TkCreSem
sem_flag_call_name (semflag.SigSem _ _) = names.TkSigSem
sem_flag_call_name (semflag.WaiSem _ _ _) = names.TkWaiSem
sem_flag_call_name (semflag.RefSem _) = names.TkRefSem
sem_flag_call_name (semflag.CreFlg _ _) = names.TkCreFlg
sem_flag_call_name (semflag.SetFlg _ _) = names.TkSetFlg
sem_flag_call_name (semflag.ClrFlg _ _) = names.TkClrFlg
sem_flag_call_name (semflag.WaiFlg _ _ _ _) = names.TkWaiFlg
sem_flag_call_name (semflag.RefFlg _) = names.TkRefFlg
sem_flag_call_name (semflag.DelSem _) = names.TkDelSem
sem_flag_call_name (semflag.DelFlg _) = names.TkDelFlg

unfoldable pub mutex_call_name : MutexCall → CallName
mutex_call_name (mutex.CreMtx _ _) = names.TkCreMtx
mutex_call_name (mutex.LocMtx _ _) = names.TkLocMtx
mutex_call_name (mutex.UnlMtx _) = names.TkUnlMtx
mutex_call_name (mutex.RefMtx _) = names.TkRefMtx
mutex_call_name (mutex.DelMtx _) = names.TkDelMtx

unfoldable pub mail_call_name : MailCall → CallName
mail_call_name (mail.CreMbx _) = names.TkCreMbx
mail_call_name (mail.DelMbx _) = names.TkDelMbx
mail_call_name (mail.SndMbx _ _ _) = names.TkSndMbx
mail_call_name (mail.RcvMbx _ _) = names.TkRcvMbx
mail_call_name (mail.RefMbx _) = names.TkRefMbx
mail_call_name (mail.CreMbf _ _ _) = names.TkCreMbf
mail_call_name (mail.SndMbf _ _ _ _) = names.TkSndMbf
mail_call_name (mail.RcvMbf _ _ _) = names.TkRcvMbf
mail_call_name (mail.RefMbf _) = names.TkRefMbf
mail_call_name (mail.DelMbf _) = names.TkDelMbf

unfoldable pub pool_call_name : PoolCall → CallName
pool_call_name (pool.CreMpf _ _ _) = names.TkCreMpf
pool_call_name (pool.DelMpf _) = names.TkDelMpf
pool_call_name (pool.GetMpf _ _) = names.TkGetMpf
pool_call_name (pool.RelMpf _ _) = names.TkRelMpf
pool_call_name (pool.RefMpf _) = names.TkRefMpf
pool_call_name (pool.CreMpl _ _) = names.TkCreMpl
pool_call_name (pool.DelMpl _) = names.TkDelMpl
pool_call_name (pool.GetMpl _ _ _) = names.TkGetMpl
pool_call_name (pool.RelMpl _ _) = names.TkRelMpl
pool_call_name (pool.RefMpl _) = names.TkRefMpl

unfoldable pub time_call_name : TimeCall → CallName
time_call_name (times.SetTim _ _) = names.TkSetTim
time_call_name times.GetTim = names.TkGetTim
time_call_name times.GetOtm = names.TkGetOtm
time_call_name (times.CreCyc _ _ _ _) = names.TkCreCyc
time_call_name (times.StaCyc _) = names.TkStaCyc
time_call_name (times.StpCyc _) = names.TkStpCyc
time_call_name (times.DelCyc _) = names.TkDelCyc
time_call_name (times.RefCyc _) = names.TkRefCyc
time_call_name (times.CreAlm _ _) = names.TkCreAlm
time_call_name (times.StaAlm _ _) = names.TkStaAlm
time_call_name (times.StpAlm _) = names.TkStpAlm
time_call_name (times.DelAlm _) = names.TkDelAlm
time_call_name (times.RefAlm _) = names.TkRefAlm

unfoldable pub context_call_name : ContextCall → CallName
context_call_name (context.DefInt _ _) = names.TkDefInt
context_call_name context.DisDsp = names.TkDisDsp
context_call_name context.EnaDsp = names.TkEnaDsp
context_call_name context.Di = names.Di
context_call_name context.Ei = names.Ei
context_call_name context.RefSys = names.TkRefSys
context_call_name (context.DefSsy _ _) = names.TkDefSsy
context_call_name (context.RefSsy _) = names.TkRefSsy
context_call_name (context.Svc _ _) = names.Svc

unfoldable pub device_call_name : DeviceCall → CallName
device_call_name (device.OpnDev _ _) = names.TkOpnDev
device_call_name (device.ReaDev _ _ _ _ _) = names.TkReaDev
device_call_name (device.WriDev _ _ _ _ _) = names.TkWriDev
device_call_name (device.SreaDev _ _ _ _) = names.TkSreaDev
device_call_name (device.SwriDev _ _ _ _) = names.TkSwriDev
device_call_name (device.WaiDev _ _ _) = names.TkWaiDev
device_call_name (device.ClsDev _) = names.TkClsDev
device_call_name (device.SusDev _) = names.TkSusDev
device_call_name (device.RefDev _) = names.TkRefDev

unfoldable pub hook_call_name : HookCall → CallName
hook_call_name (hook.LstTsk _ _) = names.TdLstTsk
hook_call_name (hook.LstSem _ _) = names.TdLstSem
hook_call_name (hook.LstFlg _ _) = names.TdLstFlg
hook_call_name (hook.LstMbx _ _) = names.TdLstMbx
hook_call_name (hook.LstMtx _ _) = names.TdLstMtx
hook_call_name (hook.LstMbf _ _) = names.TdLstMbf
hook_call_name (hook.LstMpf _ _) = names.TdLstMpf
hook_call_name (hook.LstMpl _ _) = names.TdLstMpl
hook_call_name (hook.LstCyc _ _) = names.TdLstCyc
hook_call_name (hook.LstAlm _ _) = names.TdLstAlm
hook_call_name (hook.LstSsy _ _) = names.TdLstSsy
hook_call_name (hook.RdyQue _ _ _) = names.TdRdyQue
hook_call_name (hook.SemQue _ _ _) = names.TdSemQue
hook_call_name (hook.FlgQue _ _ _) = names.TdFlgQue
hook_call_name (hook.MbxQue _ _ _) = names.TdMbxQue
hook_call_name (hook.MtxQue _ _ _) = names.TdMtxQue
hook_call_name (hook.SmbfQue _ _ _) = names.TdSmbfQue
hook_call_name (hook.RmbfQue _ _ _) = names.TdRmbfQue
hook_call_name (hook.MpfQue _ _ _) = names.TdMpfQue
hook_call_name (hook.MplQue _ _ _) = names.TdMplQue
hook_call_name (hook.HokSvc _) = names.TdHokSvc
hook_call_name (hook.HokDsp _) = names.TdHokDsp
hook_call_name (hook.HokInt _) = names.TdHokInt

-- the name of a call
unfoldable pub name_of : Call → CallName
name_of (Task call) = task_call_name call
name_of (SemFlag call) = sem_flag_call_name call
name_of (Mutex call) = mutex_call_name call
name_of (Mail call) = mail_call_name call
name_of (Pool call) = pool_call_name call
name_of (Time call) = time_call_name call
name_of (Context call) = context_call_name call
name_of (Device call) = device_call_name call
name_of (Hook call) = hook_call_name call
