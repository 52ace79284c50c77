-- The table of the main error codes: number and name of each.
use Rattle.std.specs.Prelude.{ℕ, ℤ, pos, negsuc, Option, List, codes, find, bytes_eq}
use Rattle.std.specs.Ordering.{int_eq}
use Rattle.tk_types.specs.declared.error_code.Er.{Er}
use Rattle.tk_types.specs.declared.error_code.Er.TheVariants.{Ok as Fine, RsFn, RsAtr, Par, Id, Ctx, OaCv, IlUse, NoMem, Limit, Obj, NoExs, QOvr, RlWai, TmOut, Dlt, Io, Busy, Abort, Sys, NoCop, NoSpt, MaCv, DisWai, NoMda, RoNly}
use Rattle.tk_types.specs.declared.error_code.TheConstants.{ALL}

-- the number of a code
unfoldable pub code_of : Er → ℤ
code_of Fine = pos 0
code_of RsFn = negsuc 9
code_of RsAtr = negsuc 10
code_of Par = negsuc 16
code_of Id = negsuc 17
code_of Ctx = negsuc 24
code_of OaCv = negsuc 26
code_of IlUse = negsuc 27
code_of NoMem = negsuc 32
code_of Limit = negsuc 33
code_of Obj = negsuc 40
code_of NoExs = negsuc 41
code_of QOvr = negsuc 42
code_of RlWai = negsuc 48
code_of TmOut = negsuc 49
code_of Dlt = negsuc 50
code_of Io = negsuc 56
code_of Busy = negsuc 64
code_of Abort = negsuc 65
code_of Sys = negsuc 4
code_of NoCop = negsuc 5
code_of NoSpt = negsuc 8
code_of MaCv = negsuc 25
code_of DisWai = negsuc 51
code_of NoMda = negsuc 57
code_of RoNly = negsuc 66

-- its name in a trace
unfoldable pub error_text : Er → List ℕ
error_text Fine = codes "E_OK"
error_text RsFn = codes "E_RSFN"
error_text RsAtr = codes "E_RSATR"
error_text Par = codes "E_PAR"
error_text Id = codes "E_ID"
error_text Ctx = codes "E_CTX"
error_text OaCv = codes "E_OACV"
error_text IlUse = codes "E_ILUSE"
error_text NoMem = codes "E_NOMEM"
error_text Limit = codes "E_LIMIT"
error_text Obj = codes "E_OBJ"
error_text NoExs = codes "E_NOEXS"
error_text QOvr = codes "E_QOVR"
error_text RlWai = codes "E_RLWAI"
error_text TmOut = codes "E_TMOUT"
error_text Dlt = codes "E_DLT"
error_text Io = codes "E_IO"
error_text Busy = codes "E_BUSY"
error_text Abort = codes "E_ABORT"
error_text Sys = codes "E_SYS"
error_text NoCop = codes "E_NOCOP"
error_text NoSpt = codes "E_NOSPT"
error_text MaCv = codes "E_MACV"
error_text DisWai = codes "E_DISWAI"
error_text NoMda = codes "E_NOMDA"
error_text RoNly = codes "E_RONLY"

-- the code with that number
unfoldable pub coded : ℤ → Option Er
coded number = find (λ error. int_eq (code_of error) number) ALL

-- the code with that name
unfoldable pub error_named : List ℕ → Option Er
error_named word = find (λ error. bytes_eq (error_text error) word) ALL
