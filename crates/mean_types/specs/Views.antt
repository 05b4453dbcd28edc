-- What kinds are in the words of the meaning.
use Rattle.cheri_c_sem.specs.Kinds.{Kind, Plain, Capability}
use Rattle.mean_types.specs.declared.kinds.Kind as public
use Rattle.mean_types.specs.declared.kinds.Kind.TheVariants as kind

abbrev pub kind_of : public.Kind → Kind
kind_of (kind.Plain k) = Plain k
kind_of (kind.Capability signed) = Capability signed
