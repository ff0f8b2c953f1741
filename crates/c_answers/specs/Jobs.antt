-- To be believed: what the C calls on job files hand back, by the inner answers.
use Rattle.std.specs.Prelude.{◌≡◌, Float, Result, Ok, Err}
use Rattle.geometry.specs.Forms.{kind_byte}
use Rattle.sink.specs.Sink.{whole}
use Rattle.motion_floats.specs.declared.Motion.{Motion}
use Rattle.motion_floats.specs.declared.Motion.TheVariants.{Change, Stay, Travel, Sink}
use Rattle.motion_floats.specs.declared.Motions.{Motions}
use Rattle.c_answers.specs.declared.HaruJob.{HaruJob}
use Rattle.c_answers.specs.declared.HaruListAnswer.{HaruListAnswer}
use Rattle.c_answers.specs.declared.HaruMotions.{HaruMotions}
use Rattle.reading.specs.declared.Job.{Job}
use Rattle.refusal.specs.declared.Refusal.{Refusal}
use Rattle.listing.specs.declared.Extent.{Extent}

abbrev pub of_read : Result Job Refusal → HaruJob
of_read (Ok j) = record { number = 0; kind = kind_byte j.head.kind; width = j.head.width; height = j.head.height; place = 0; plunges = j.plunges }
of_read (Err r) = record { number = r.number; kind = 0; width = 0; height = 0; place = r.place; plunges = 0 }

abbrev pub of_list : Result Extent Refusal → HaruListAnswer
of_list (Ok e) = record { number = 0; place = 0; bytes = e.bytes; plunges = e.plunges; rungs = e.erosions }
of_list (Err r) = record { number = r.number; place = r.place; bytes = 0; plunges = 0; rungs = 0 }

-- the inner call's promise holds of an answer, and the struct says that answer
abbrev pub ToldList : (Result Extent Refusal → Type 0) → HaruListAnswer → Type 0
ToldList P r = (v : Result Extent Refusal) × P v × (r ≡ of_list v)

abbrev nothing : Float
nothing = whole 0

-- one motion's millimetres in their places
abbrev pub of_motion : Motion → HaruMotions
of_motion (Change w) = record { number = 0; changed = 1; place = 0; width = w; x = nothing; y = nothing; sink = nothing }
of_motion Stay = record { number = 0; changed = 0; place = 0; width = nothing; x = nothing; y = nothing; sink = nothing }
of_motion (Travel u v) = record { number = 0; changed = 0; place = 0; width = nothing; x = u; y = v; sink = nothing }
of_motion (Sink d) = record { number = 0; changed = 0; place = 0; width = nothing; x = nothing; y = nothing; sink = d }

-- the three together
abbrev pub of_three : Motions → HaruMotions
of_three m =
    record {
      number = 0;
      changed = (of_motion m.first).changed;
      place = 0;
      width = (of_motion m.first).width;
      x = (of_motion m.second).x;
      y = (of_motion m.second).y;
      sink = (of_motion m.third).sink;
    }

abbrev pub of_motions : Result Motions Refusal → HaruMotions
of_motions (Ok m) = of_three m
of_motions (Err r) = record { number = r.number; changed = 0; place = r.place; width = nothing; x = nothing; y = nothing; sink = nothing }
