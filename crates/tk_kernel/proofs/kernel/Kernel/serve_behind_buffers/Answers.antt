use Rattle.step_lemmas.specs.Kinds.{fixed_pools, variable_pools}
use Rattle.step_lemmas.proofs.Servings.{device_last, fixed_first, still_sound, variable_then}
use Rattle.tk_kernel.proofs.kernel.Kernel.serve_behind_buffers.Goals as goal

pub returns-then-serve_fixed_pool : goal.returns-then-serve_fixed_pool
returns-then-serve_fixed_pool c = fixed_first c.args.self.now c.serve_fixed_pool.new.self _ c.serve_fixed_pool.ensures c.if-serve_fixed_pool.true

pub serve_variable_pool-requires : goal.serve_variable_pool-requires
serve_variable_pool-requires c = record { sound = still_sound fixed_pools c.args.self.now c.serve_fixed_pool.new.self _ c.serve_fixed_pool.ensures c.if-serve_fixed_pool.false c.requires.sound }

pub returns-then-serve_variable_pool : goal.returns-then-serve_variable_pool
returns-then-serve_variable_pool c = variable_then c.args.self.now c.serve_fixed_pool.new.self c.serve_variable_pool.new.self _ _ c.serve_fixed_pool.ensures c.if-serve_fixed_pool.false c.serve_variable_pool.ensures c.if-serve_variable_pool.true

pub serve_devices-requires : goal.serve_devices-requires
serve_devices-requires c = record {
  sound = still_sound variable_pools c.serve_fixed_pool.new.self c.serve_variable_pool.new.self _ c.serve_variable_pool.ensures c.if-serve_variable_pool.false
      (still_sound fixed_pools c.args.self.now c.serve_fixed_pool.new.self _ c.serve_fixed_pool.ensures c.if-serve_fixed_pool.false c.requires.sound);
}

pub returns : goal.returns
returns c =
    device_last c.args.self.now c.serve_fixed_pool.new.self c.serve_variable_pool.new.self c.serve_devices.new.self _ _ _ c.serve_fixed_pool.ensures c.if-serve_fixed_pool.false c.serve_variable_pool.ensures c.if-serve_variable_pool.false
    c.in_ok-served.ensures
