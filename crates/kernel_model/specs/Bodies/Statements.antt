-- What a statement does to its frame and to the script's memory, and what it asks of the machine. Registers hold 32
-- bits, and all numbers count modulo 2^32.
use Rattle.std.specs.Prelude.{ℕ, ◌+◌, ◌-◌, ◌*◌, ◌%◌, ◌^◌, ◌≤◌, ◌==◌, Bool, true, not, int_lt, ℤ, if◌then◌else◌, List, [], ◌∷◌, ◌++◌, Option, Some, None, replicate, length, slice_index, slice_get, slice_set, position, bytes_eq, map, take, drop, bit_and, bit_or, bit_xor}
use Rattle.std.specs.Option.{option_map_or}
use Rattle.std.specs.Int.{w32, cast_unsigned, cast_signed}
use Rattle.tk_types.specs.declared.script.Script.{Script}
use Rattle.tk_types.specs.declared.script.Body.{Body}
use Rattle.tk_types.specs.declared.script.Label.{Label}
use Rattle.tk_types.specs.declared.script.Device.{Device}
use Rattle.tk_types.specs.declared.script.Operand.{Operand}
use Rattle.tk_types.specs.declared.script.Operand.TheVariants as operands
use Rattle.tk_types.specs.declared.script.Operation.{Operation}
use Rattle.tk_types.specs.declared.script.Operation.TheVariants as operations
use Rattle.tk_types.specs.declared.script.Condition.{Condition}
use Rattle.tk_types.specs.declared.script.Condition.TheVariants as conditions
use Rattle.tk_types.specs.declared.script.Stmt.{Stmt}
use Rattle.tk_types.specs.declared.script.Stmt.TheVariants as stmts
use Rattle.tk_types.specs.declared.script.Arg.{Arg}
use Rattle.tk_types.specs.declared.script.Arg.TheVariants as args
use Rattle.tk_types.specs.declared.answer.Answer.{Answer}
use Rattle.tk_types.specs.declared.call_name.CallName.{CallName}
use Rattle.tk_types.specs.declared.run.Frame.{Frame}
use Rattle.tk_types.specs.declared.run.SayText.TheVariants as texts
use Rattle.tk_types.specs.declared.run.Act.{Act}
use Rattle.tk_types.specs.declared.run.Act.TheVariants as acts
use Rattle.tk_types.specs.Calls.{made}

-- the frame and the memory after a statement, and what the statement asks for
pub record Fetched : Type 0 where
  pub frame : Frame
  pub memory : List ℕ
  pub act : Act

-- how many bytes the script's memory has
abbrev pub memory_size : ℕ
memory_size = 65536

-- a body begins with its registers at zero but for r1 and r2
abbrev pub start_frame : ℕ → ℤ → ℤ → Frame
start_frame body first second = record {
  body = body;
  place = 0;
  registers = 0 ∷ cast_unsigned w32 first ∷ cast_unsigned w32 second ∷ replicate 13 0;
}

-- the body with that number, from 1 on
abbrev pub body_at : Script → ℕ → Option Body
body_at script n = if n == 0 then None else slice_get script.bodies (n - 1)

-- the statements of the body with that number
abbrev pub statements_of : Script → ℕ → List Stmt
statements_of script n = option_map_or (λ body. body.stmts) (body_at script n) []

-- the statement at which a frame stands; none at the end of its body
abbrev pub statement_at : Script → Frame → Option Stmt
statement_at script frame = slice_get (statements_of script frame.body) frame.place

-- the labels of the body with that number
abbrev pub labels_of : Script → ℕ → List Label
labels_of script n = option_map_or (λ body. body.labels) (body_at script n) []

-- where the label with that place in the body's list stands
abbrev pub label_place : Script → Frame → ℕ → ℕ
label_place script frame label = option_map_or (λ at. at.place) (slice_get (labels_of script frame.body) label) 0

-- the ID of the device with a name, from 1 on, or 0
abbrev pub device_number : List Device → List ℕ → ℕ
device_number devices name = option_map_or (λ place. place + 1) (position (λ device. bytes_eq device.name name) devices) 0

-- the 32 bits of a register
abbrev pub register_value : Frame → ℕ → ℕ
register_value frame register = slice_index frame.registers register

-- the 32 bits that a number or a register stands for
abbrev pub operand_value : Frame → Operand → ℕ
operand_value frame (operands.Number number) = cast_unsigned w32 number
operand_value frame (operands.Register register) = register_value frame register

-- the 32 bits that an argument stands for
abbrev pub argument_value : Script → Frame → Arg → ℕ
argument_value script frame (args.Number number) = cast_unsigned w32 number
argument_value script frame (args.Register register) = register_value frame register
argument_value script frame (args.List bits) = bits
argument_value script frame (args.Body body) = body
argument_value script frame (args.Name name) = device_number script.devices name

-- the value of the argument in a place, 0 behind the last
abbrev pub value_in : Script → Frame → Option Arg → ℕ
value_in script frame None = 0
value_in script frame (Some arg) = argument_value script frame arg

-- the values in the five places that a call may have
abbrev pub argument_values : Script → Frame → List Arg → List ℕ
argument_values script frame list =
    value_in script frame (slice_get list 0)
    ∷ value_in script frame (slice_get list 1)
    ∷ value_in script frame (slice_get list 2)
    ∷ value_in script frame (slice_get list 3)
    ∷ value_in script frame (slice_get list 4)
    ∷ []

-- the frame has passed one statement more
abbrev pub passed : Frame → Frame
passed frame = record frame { place = frame.place + 1 }

-- a register of a frame takes 32 bits
abbrev pub with_register : Frame → ℕ → ℕ → Frame
with_register frame register value = record frame { registers = slice_set frame.registers register value }

-- what an operation makes of a register's 32 bits and a value's
abbrev pub computed : Operation → ℕ → ℕ → ℕ
computed operations.Set old value = value
computed operations.Add old value = (old + value) % (2 ^ 32)
computed operations.Sub old value = (old + (2 ^ 32 - value)) % (2 ^ 32)
computed operations.Mul old value = (old * value) % (2 ^ 32)
computed operations.And old value = bit_and old value
computed operations.Or old value = bit_or old value
computed operations.Xor old value = bit_xor old value

-- a register and a value are compared as signed numbers
abbrev pub is_less : ℕ → ℕ → Bool
is_less old value = int_lt (cast_signed w32 old) (cast_signed w32 value)

-- whether a jump is taken
abbrev pub is_taken : Frame → Condition → Bool
is_taken frame conditions.Always = true
is_taken frame (conditions.Equal register value) = register_value frame register == operand_value frame value
is_taken frame (conditions.NotEqual register value) = not (register_value frame register == operand_value frame value)
is_taken frame (conditions.Less register value) = is_less (register_value frame register) (operand_value frame value)

-- the byte of memory that 32 bits address
abbrev pub byte_at : List ℕ → ℕ → ℕ
byte_at memory address = slice_index memory (address % memory_size)

-- the memory with a byte written
abbrev pub with_byte : List ℕ → ℕ → ℕ → List ℕ
with_byte memory address value = slice_set memory (address % memory_size) (value % 256)

-- a statement that changes its frame alone, and asks for nothing more
abbrev pub in_frame : Frame → List ℕ → Fetched
in_frame frame memory = record { frame = frame; memory = memory; act = acts.Computed }

-- a statement that is passed, and what it asks for
abbrev pub asked : Frame → List ℕ → Act → Fetched
asked frame memory act = record { frame = passed frame; memory = memory; act = act }

abbrev pub fetched : Script → Frame → List ℕ → Option Stmt → Fetched
fetched script frame memory None = record { frame = frame; memory = memory; act = acts.Fell }
fetched script frame memory (Some (stmts.Compute operation register value)) =
    in_frame (with_register (passed frame) register (computed operation (register_value frame register) (operand_value frame value))) memory
fetched script frame memory (Some (stmts.Load register address)) =
    in_frame (with_register (passed frame) register (byte_at memory (operand_value frame address))) memory
fetched script frame memory (Some (stmts.Store address value)) =
    in_frame (passed frame) (with_byte memory (operand_value frame address) (operand_value frame value))
fetched script frame memory (Some (stmts.Jump condition label)) =
    in_frame (if is_taken frame condition then record frame { place = label_place script frame label } else passed frame) memory
fetched script frame memory (Some (stmts.Say name)) = asked frame memory (acts.Say (texts.Name name))
fetched script frame memory (Some (stmts.Show value)) = asked frame memory (acts.Say (texts.Number (cast_signed w32 (operand_value frame value))))
fetched script frame memory (Some stmts.Nop) = asked frame memory acts.Computed
fetched script frame memory (Some stmts.Halt) = asked frame memory acts.Halt
fetched script frame memory (Some (stmts.Return value)) = asked frame memory (acts.Return (cast_signed w32 (operand_value frame value)))
fetched script frame memory (Some (stmts.Call name list)) = asked frame memory (acts.Call (made name (argument_values script frame list)))

-- one statement of a frame
unfoldable pub fetch : Script → Frame → List ℕ → Fetched
fetch script frame memory = fetched script frame memory (statement_at script frame)

-- an answer's value goes into r0, and its fields into the registers behind
abbrev pub answer_registers : Answer → List ℕ
answer_registers answer = cast_unsigned w32 answer.value ∷ map (cast_unsigned w32) (take answer.used answer.fields)

-- the first registers take new values
abbrev pub over : List ℕ → List ℕ → List ℕ
over values registers = values ++ drop (length values) registers

-- an answer goes into the registers of a frame
unfoldable pub give : Frame → Answer → Frame
give frame answer = record frame { registers = over (answer_registers answer) frame.registers }

abbrev pub call_in : Option Stmt → Option CallName
call_in (Some (stmts.Call name list)) = Some name
call_in _ = None

-- the call in which a frame's task waits: that of the statement it passed last
unfoldable pub call_before : Script → Frame → Option CallName
call_before script frame = call_in (statement_at script (record frame { place = frame.place - 1 }))

-- what the machine needs of a script; every script that a text spells has it
pub record IsRunnable (script : Script) : Type 0 where
  pub few_devices : length script.devices ≤ 8
  pub least_priority : 1 ≤ script.boot.priority
  pub most_priority : script.boot.priority ≤ 140
