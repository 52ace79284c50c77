-- What calls and servings ask of the tasks that wait, and what the tables have room for.
use Rattle.std.specs.Prelude.{◌≡◌, length}
use Rattle.kernel_model.specs.Bodies.Statements.{memory_size}
use Rattle.kernel_model.specs.Tasks.Base.{Base}
use Rattle.machine_model.specs.States.Objects.{Objects}
use Rattle.machine_model.specs.States.State.{State}
use Rattle.machine_model.specs.States.Waits.{IsOrderly}
use Rattle.ask_lemmas.specs.Asked.{HaveAsked}

-- each task that waits stands in the queue of an object that there is, in its order, and has asked for something that fits
pub record IsSound (b : Base) (o : Objects) : Type 0 where
  pub orderly : IsOrderly b o
  pub asked : HaveAsked b o

-- the tables have a place for each task, and the script's memory a byte for each address
pub record IsWhole (st : State) : Type 0 where
  pub tasks : length st.base.tasks ≡ 256
  pub sending : length st.objects.mails.sending ≡ 256
  pub into : length st.objects.mails.into ≡ 256
  pub sizes : length st.objects.pools.sizes ≡ 256
  pub memory : length st.memory ≡ memory_size
