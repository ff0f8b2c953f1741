-- To be believed: what the C calls on a press port hand back, by the inner answer.
use Rattle.std.specs.Prelude.{◌≡◌}
use Rattle.port.specs.declared.PortAnswer.{PortAnswer}
use Rattle.c_answers.specs.declared.HaruPortAnswer.{HaruPortAnswer}
use Rattle.c_answers.specs.Told.{of_verdict}

abbrev pub of_port : PortAnswer → HaruPortAnswer
of_port a = record { number = (of_verdict a.verdict).number; place = (of_verdict a.verdict).place; port = a.port }

-- the inner call's promise holds of an answer, and the struct says that answer
abbrev pub ToldPort : (PortAnswer → Type 0) → HaruPortAnswer → Type 0
ToldPort P r = (v : PortAnswer) × P v × (r ≡ of_port v)
