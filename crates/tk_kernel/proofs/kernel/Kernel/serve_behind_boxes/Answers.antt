use Rattle.step_lemmas.specs.Kinds.{buffers, mutexes}
use Rattle.step_lemmas.proofs.Servings.{buffer_then, mutex_first, pool_last, still_sound}
use Rattle.tk_kernel.proofs.kernel.Kernel.serve_behind_boxes.Goals as goal

pub returns-then-serve_mutex : goal.returns-then-serve_mutex
returns-then-serve_mutex c = mutex_first c.args.self.now c.serve_mutex.new.self _ c.serve_mutex.ensures c.if-serve_mutex.true

pub serve_buffer-requires : goal.serve_buffer-requires
serve_buffer-requires c = record { sound = still_sound mutexes c.args.self.now c.serve_mutex.new.self _ c.serve_mutex.ensures c.if-serve_mutex.false c.requires.sound }

pub returns-then-serve_buffer : goal.returns-then-serve_buffer
returns-then-serve_buffer c = buffer_then c.args.self.now c.serve_mutex.new.self c.serve_buffer.new.self _ _ c.serve_mutex.ensures c.if-serve_mutex.false c.serve_buffer.ensures c.if-serve_buffer.true

pub serve_behind_buffers-requires : goal.serve_behind_buffers-requires
serve_behind_buffers-requires c = record {
  sound = still_sound buffers c.serve_mutex.new.self c.serve_buffer.new.self _ c.serve_buffer.ensures c.if-serve_buffer.false
      (still_sound mutexes c.args.self.now c.serve_mutex.new.self _ c.serve_mutex.ensures c.if-serve_mutex.false c.requires.sound);
}

pub returns : goal.returns
returns c =
    pool_last c.args.self.now c.serve_mutex.new.self c.serve_buffer.new.self c.serve_behind_buffers.new.self _ _ _ c.serve_mutex.ensures c.if-serve_mutex.false c.serve_buffer.ensures c.if-serve_buffer.false
    c.in_ok-served.ensures
