-- Which of a flaky unit's requests is next to fail.
use Rattle.std.specs.Prelude.{ℕ, ◌%◌}
use Rattle.tk_types.specs.declared.script.Kind.{Kind}
use Rattle.tk_types.specs.declared.script.Kind.TheVariants.{Flaky}

-- how many requests were begun since the last one that failed, 0 where that was the last
abbrev pub turn_of : Kind → ℕ → ℕ
turn_of (Flaky size each) begun = begun % each
turn_of _ begun = 0
