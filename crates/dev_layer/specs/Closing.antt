-- Which of two waiters began to wait earlier.
use Rattle.std.specs.Prelude.{ℕ, nat_le, ◌&&◌, ◌||◌, Bool, if◌then◌else◌, Option, Some, None, unwrap_or}
use Rattle.kernel_model.specs.Tasks.Base.{Base, waits_for}
use Rattle.kernel_base.specs.declared.view.TaskView.{TaskView}
use Rattle.kernel_base.specs.Views.{view_of}

abbrev pub since_in : Option TaskView → ℕ
since_in None = 0
since_in (Some view) = unwrap_or view.since 0

-- the place of a task among all by the beginning of their last waits
abbrev pub place_of : Base → ℕ → ℕ
place_of b t = since_in (view_of b t)

abbrev pub earlier : Base → Option ℕ → Option ℕ → Option ℕ
earlier b None other = other
earlier b (Some one) None = Some one
earlier b (Some one) (Some other) = if nat_le (place_of b one) (place_of b other) then Some one else Some other

-- whether a task waits for one object, or for another with a wish that passes
abbrev pub waits_at : ℕ → ℕ → (ℕ → Bool) → Base → ℕ → Bool
waits_at ending acceptance passes b t = waits_for b ending t || (waits_for b acceptance t && passes t)
