-- Registers in which no temp stands that is still to be read, and what was done with the outside.
use Rattle.std.proofs.Common.{◌≡◌, ℕ, true, length, Option, Some, None, ap, ◌∙◌, arith}
use Rattle.cap_machine.specs.declared.machine.Machine.{Machine}
use Rattle.cap_machine.specs.State.{register}
use Rattle.cheri_c_sem.specs.Modes.{Store}
use Rattle.cheri_c_sem.specs.Steps.{State}
use Rattle.obj_mem.specs.Table.{addresses_of}
use Rattle.place_inject.specs.Frames.{Setting, Point, IsLive, homes_of, functions_of}
use Rattle.place_inject.specs.Fits.{Fits, CallsFit, registers_in}
use Rattle.place_inject.specs.Registers.{UsesOnly, CallersUseOnly, RegistersKeepFits, DoneKeepsFits}
use Rattle.place_inject.proofs.FramesKept.{calls_kept}
use Rattle.place_inject.proofs.StoresKeep.{same_memory}

module _ (s : Setting) (Used : ℕ → Type 0) (two : Used 2) (three : Used 3) (p : Point) (t : State Store) (m : Machine)
    (f : Fits s (Some p) t m) (own : UsesOnly Used (homes_of s p.running.fun) (IsLive s p))
    (callers : CallersUseOnly s Used p.running.callers) (after : Machine) (long : length after.regs ≡ 32)
    (mem : after.mem ≡ m.mem) (alike : (r : ℕ) → Used r → register after r ≡ register m r) where
  calls_still : CallsFit s (Some p) t after
  calls_still =
      let c = f.calls in
      let c' = calls_kept s t.mem.memory.shapes m.mem m.mem f.objects.areas f.objects.areas
      0 (λ fun first at above link g up. same_memory at g.frame.saved m.mem) Used (registers_in m) (registers_in after)
      (λ r u. ap (λ c. Some c) (alike r u)) p.running.fun t.first t.frame (omega arith) p.running.callers
      (functions_of s) (addresses_of s.map) (IsLive s p) t.vars own callers c.1 c.2 in
      rw mem (c.0, c'.0, c'.1)

  pub registers_keep : Fits s (Some p) t after
  registers_keep = record {
    registers = long;
    objects = rw mem f.objects;
    globals = f.globals;
    text = rw mem f.text;
    table = rw mem f.table;
    heap = rw mem f.heap;
    stack = record {
      stack = alike 2 two ∙ f.stack.stack;
      table = alike 3 three ∙ f.stack.table;
      clear = f.stack.clear;
    };
    calls = calls_still;
    places = rw mem f.places;
  }

pub registers_keep_fits_law : RegistersKeepFits
registers_keep_fits_law s stays two three p t m f own callers after long mem alike =
    registers_keep s (λ r. stays r ≡ true) two three p t m f own callers after long mem alike

pub done_keeps_fits_law : DoneKeepsFits
done_keeps_fits_law s p t m f done left = record {
  registers = f.registers;
  objects = f.objects;
  globals = f.globals;
  text = f.text;
  table = f.table;
  heap = f.heap;
  stack = record { stack = f.stack.stack; table = f.stack.table; clear = f.stack.clear };
  calls = calls_by p f.calls;
  places = f.places;
}
  where
    calls_by : (q : Option Point) → CallsFit s q t m → CallsFit s q (record t { done = done; left = left }) m
    calls_by None c = c
    calls_by (Some q) c = c
