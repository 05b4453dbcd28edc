-- 64 bits as the code works on them.
use Rattle.std.specs.Prelude.{ℕ, ℤ, pos}
use Rattle.ck_int.specs.declared.kinds.IntKind.{IntKind}
use Rattle.ck_int.specs.declared.kinds.IntOp.{IntOp}
use Rattle.ck_int.specs.Kinds.{Form, truth, unsigned, signed, form_of, twos_complement, kept_of}
use Rattle.ck_int.specs.Arithmetic.{result_of, promoted_width_of}

-- 64 bits, read with the sign bit where the form has one
abbrev pub word_of : Form → ℕ → ℤ
word_of truth v = pos v
word_of (unsigned w) v = pos v
word_of (signed w) v = twos_complement 64 v

-- the low 64 bits of an operation on 64 bits that are read so
unfoldable pub word_result_of : IntOp → IntKind → ℕ → ℕ → ℕ
word_result_of op k a b = kept_of (result_of op (promoted_width_of k) (word_of (form_of k) a) (word_of (form_of k) b))
