-- The words of the lists of attributes and modes: the word in place k of its table is bit k of a number.
use Rattle.std.specs.Prelude.{ℕ, Bool, ◌==◌, ◌/◌, ◌%◌, ◌^◌}
use Rattle.tk_types.specs.declared.modes.Attributes.{Attributes}
use Rattle.tk_types.specs.declared.modes.FlagMode.{FlagMode}
use Rattle.tk_types.specs.declared.modes.OpenMode.{OpenMode}
use Rattle.tk_types.specs.declared.modes.SuspendMode.{SuspendMode}

-- the bit of the word in that place
abbrev pub has : ℕ → ℕ → Bool
has bits place = bits / 2 ^ place % 2 == 1

unfoldable pub attributes_of : ℕ → Attributes
attributes_of bits = record {
  ta_asm = has bits 0;
  ta_hlng = has bits 1;
  ta_rng0 = has bits 2;
  ta_rng1 = has bits 3;
  ta_rng2 = has bits 4;
  ta_rng3 = has bits 5;
  ta_tfifo = has bits 6;
  ta_tpri = has bits 7;
  ta_first = has bits 8;
  ta_cnt = has bits 9;
  ta_wsgl = has bits 10;
  ta_wmul = has bits 11;
  ta_mfifo = has bits 12;
  ta_mpri = has bits 13;
  ta_inherit = has bits 14;
  ta_ceiling = has bits 15;
  ta_sta = has bits 16;
  ta_phs = has bits 17;
}

unfoldable pub flag_mode_of : ℕ → FlagMode
flag_mode_of bits = record {
  twf_andw = has bits 0;
  twf_orw = has bits 1;
  twf_clr = has bits 2;
  twf_bitclr = has bits 3;
}

unfoldable pub open_mode_of : ℕ → OpenMode
open_mode_of bits = record {
  td_read = has bits 0;
  td_write = has bits 1;
  td_update = has bits 2;
  td_excl = has bits 3;
  td_wexcl = has bits 4;
  td_rexcl = has bits 5;
}

unfoldable pub suspend_mode_of : ℕ → SuspendMode
suspend_mode_of bits = record {
  td_suspend = has bits 0;
  td_dissus = has bits 1;
  td_enasus = has bits 2;
  td_check = has bits 3;
  td_force = has bits 4;
}
