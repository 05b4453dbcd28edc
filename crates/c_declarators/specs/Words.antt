-- The words among specifiers, counted (C11 6.7.1 to 6.7.3).
use Rattle.std.specs.Prelude.{◌≡◌, ℕ, ◌+◌, Bool, true, false, ◌&&◌, ◌==◌, nat_lt, nat_le, if◌then◌else◌, List, [], ◌∷◌}
use Rattle.std.specs.Prelude.{Option, Some, None, slice_get}
use Rattle.ck_int.specs.declared.kinds.IntKind.TheVariants as kind
use Rattle.c_tree.specs.declared.syntax.Node.{Node}
use Rattle.c_tree.specs.declared.syntax.NodeKind.{NodeKind}
use Rattle.c_tree.specs.declared.syntax.NodeKind.TheVariants as Kinds
use Rattle.c_tree.specs.declared.syntax.SpecifierWord.{SpecifierWord}
use Rattle.c_tree.specs.declared.syntax.SpecifierWord.TheVariants as words
use Rattle.c_tree.specs.Syntax.{Syns, node, nil, more}
use Rattle.c_tree.specs.Types.{Ty, Void, Int, Cap, bool, char, signed_char, unsigned_char, int, long, unsigned_long}
use Rattle.c_tree.specs.Declarators.{is_word, times_there}
use Rattle.c_declarators.specs.declared.words.Words.{Words}

-- ---- in the list of nodes

abbrev pub is_of_kind : SpecifierWord → NodeKind → Bool
is_of_kind w (Kinds.Specifier v) = is_word w v
is_of_kind w k = false

abbrev pub is_of : SpecifierWord → Option Node → Bool
is_of w None = false
is_of w (Some n) = is_of_kind w n.kind

-- how often a word stands at these numbers
abbrev pub times_at : SpecifierWord → List Node → List ℕ → ℕ
times_at w nodes [] = 0
times_at w nodes (k ∷ ks) = (if is_of w (slice_get nodes k) then times_at w nodes ks + 1 else times_at w nodes ks)

-- a word stands among the parts of the first of these
abbrev pub first_has : SpecifierWord → Syns → Bool
first_has w nil = false
first_has w (more (node k t ys) xs) = nat_lt 0 (times_there w ys)

-- what is asked of the first of these nodes
pub record FirstHas (w : SpecifierWord) (nodes : List Node) (ks : List ℕ) (r : Bool) : Type 0 where
  pub none : ks ≡ [] → r ≡ false
  pub some : (k : ℕ) (js : List ℕ) (n : Node) → ks ≡ k ∷ js → slice_get nodes k ≡ Some n →
      r ≡ nat_lt 0 (times_at w nodes n.kids)

-- ---- their numbers

abbrev pub words_of : Syns → Words
words_of xs = record {
  typedefs = times_there words.Typedef xs;
  statics = times_there words.Static xs;
  externs = times_there words.Extern xs;
  autos = times_there words.Auto xs;
  registers = times_there words.Register xs;
  consts = times_there words.Const xs;
  voids = times_there words.Void xs;
  chars = times_there words.Char xs;
  shorts = times_there words.Short xs;
  ints = times_there words.Int xs;
  longs = times_there words.Long xs;
  signed = times_there words.Signed xs;
  unsigned = times_there words.Unsigned xs;
  bools = times_there words.Bool xs;
  int_caps = times_there words.IntCap xs;
  uint_caps = times_there words.UintCap xs;
}

abbrev pub type_words : Words → ℕ
type_words x = x.voids + x.chars + x.shorts + x.ints + x.longs + x.signed + x.unsigned + x.bools + x.int_caps
    + x.uint_caps

abbrev pub storage_words : Words → ℕ
storage_words x = x.typedefs + x.statics + x.externs + x.autos + x.registers

abbrev pub sign_words : Words → ℕ
sign_words x = x.signed + x.unsigned

-- the word stands there, and no other word for a type
abbrev pub is_alone : Words → ℕ → Bool
is_alone x times = type_words x == 1 && nat_lt 0 times

-- a word stands there so often, and so many words for types in all
abbrev pub is_made_of : Words → (times count all : ℕ) → Bool
is_made_of x times count all = times == count && type_words x == all

abbrev pub signs : Words → Ty → Ty → Option Ty
signs x s u = (if nat_le (sign_words x) 1 then Some (if nat_lt 0 x.unsigned then u else s) else None)

-- the types that are made of `short`, `long` and `int`
abbrev pub sized_type : Words → Option Ty
sized_type x =
    (if nat_lt 1 x.ints then None
    else (if is_made_of x x.shorts 1 (sign_words x + x.ints + 1) then signs x (Int kind.I16 0) (Int kind.U16 0)
    else (if is_made_of x x.longs 1 (sign_words x + x.ints + 1) then signs x long unsigned_long
    else (if is_made_of x x.longs 2 (sign_words x + x.ints + 2) then signs x (Int kind.I64 1) (Int kind.U64 1)
    else (if nat_lt 0 (type_words x) && type_words x == sign_words x + x.ints then signs x int (Int kind.U32 0)
    else None)))))

-- 6.7.2p2: the lists of words that are types, in any order
abbrev pub word_type : Words → Option Ty
word_type x =
    (if is_alone x x.voids then Some Void
    else (if is_alone x x.bools then Some bool
    else (if is_alone x x.int_caps then Some (Cap true)
    else (if is_alone x x.uint_caps then Some (Cap false)
    else (if is_alone x x.chars then Some char
    else (if is_made_of x x.chars 1 (sign_words x + 1) then signs x signed_char unsigned_char
    else sized_type x))))))
