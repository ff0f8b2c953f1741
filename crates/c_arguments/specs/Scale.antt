-- To be believed: the scale that a C call is given, as the motions take it.
use Rattle.motion_floats.specs.declared.Scale.{Scale}
use Rattle.c_arguments.specs.declared.HaruScale.{HaruScale}

abbrev pub scale_of : HaruScale → Scale
scale_of s = record { half_pitch = s.half_pitch; column_offset = s.column_offset; row_offset = s.row_offset }
