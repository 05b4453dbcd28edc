-- What a place of the code is in the words of the meaning.
use Rattle.obj_mem.specs.Values.{value_of}
use Rattle.cheri_c_sem.specs.Meaning as meaning
use Rattle.mean_work.specs.declared.work.Place as code_place
use Rattle.mean_work.specs.declared.work.Place.TheVariants as place

abbrev pub place_of : code_place.Place → meaning.Place
place_of (place.In p x) = meaning.In p x
place_of (place.At p v) = meaning.At p (value_of v)
