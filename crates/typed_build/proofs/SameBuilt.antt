-- What is built of a program is built of every program that stands for the same.
use Rattle.std.proofs.Common.{ℕ, List, ap, subst, ◌∙◌, arith}
use Rattle.ck_base.specs.Agreement.{DoesWhatIsMeant}
use Rattle.c_tree.specs.declared.typed.Typed.{Typed}
use Rattle.c_tree.specs.Terms.{Program}
use Rattle.c_tree.specs.Views.{Shows, IsOrdered}
use Rattle.c_tree.specs.WellTyped.{WellTyped}
use Rattle.obj_mem.specs.Agreement.{Paired}
use Rattle.obj_mem.specs.Legal.{Needs, IsLegal}
use Rattle.obj_mem.specs.Table.{table_length}
use Rattle.obj_mem.specs.declared.map.Map.{Map}
use Rattle.cheri_c_sem.specs.Runs.{placed_run}
use Rattle.cap_reloc.specs.Begins.{IsRelocation}
use Rattle.same_programs.proofs.Gathered.{alike_law}
use Rattle.typed_build.specs.Built.{sides_in, IsBuilt}

pub built_same : (p r : Typed) (q : Program) → WellTyped p → IsOrdered r → Shows p q → Shows r q → (file : List ℕ)
    (m : Map) (count : ℕ) → IsBuilt p file m count → IsBuilt r file m count
built_same p r q o u s t file m count h =
    let same = alike_law p r q o u s t in
    let i = h.image in
    record {
      image = record {
        legal = subst (λ n. IsLegal n m) same.needs i.legal;
        table = i.table ∙ ap (λ (n : Needs). table_length n) same.needs;
        loaded = i.loaded;
        loads = i.loads;
        version = i.version;
        whole = i.whole;
        extents = i.extents;
        filled = record {
          code = i.filled.code;
          is = i.filled.is;
          size = omega (arith, i.filled.size, same.weight);
        };
        words = i.words;
        relocates = subst (λ bs. Paired (IsRelocation m) bs i.loaded.image.relocs) (same.pointers m) i.relocates;
        begins = same.bytes m i.loaded.image.initial_base i.loaded.image.initial i.begins;
      };
      counted = h.counted ∙ same.count;
      says = h.says;
      contained = h.contained;
      entered = h.entered;
      runs = λ w bytes.
          subst (λ t. DoesWhatIsMeant (record (sides_in r m i.loaded w) { meaning = placed_run t m w }) count) same.tree
          (h.runs w bytes);
    }
