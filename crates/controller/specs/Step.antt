-- What a controller call answers (paper 01, "Reply numbers"): a refusal gives its number and a zero result and changes nothing; a call that is
-- done gives 0 and its result, 0 where none is stated. Assumes nothing.
use Rattle.std.specs.Prelude.{ℕ, Bool, List, [], ◌∷◌, Result, Ok, Err, if◌then◌else◌}
use Rattle.reply.specs.Reply.{Reply, refusal, answer, number}
use Rattle.reply.specs.declared.Refusal.{Refusal}
use Rattle.controller.specs.declared.state.Controller.{Controller}
use Rattle.controller.specs.declared.step.Accepted.{Accepted}
use Rattle.controller.specs.declared.step.Event.{Event}
use Rattle.controller.specs.declared.step.Event.TheVariants.{Stay}

-- the controller afterwards, what becomes of the ring, and the reply
pub record Step : Type 0 where
  pub controller : Controller
  pub event : Event
  pub reply : Reply

abbrev pub refused : Controller → ℕ → Step
refused c k = record { controller = c; event = Stay; reply = refusal k }

abbrev pub replied : Controller → Event → ℕ → Step
replied c e v = record { controller = c; event = e; reply = answer v }

abbrev pub done : Controller → Step
done c = replied c Stay 0

-- a call is refused by the first of its tests that is true, with that test's number; where none is, s is its step
abbrev pub guarded : Controller → List (Bool × ℕ) → Step → Step
guarded c [] s = s
guarded c (test ∷ tests) s = if test.0 then refused c test.1 else guarded c tests s

-- the step that an accepted call of the code stands for
abbrev pub accepted : Accepted → Step
accepted a = replied a.controller a.event a.value

-- and a call's result: a refusal leaves the controller c
abbrev pub step_of : Controller → Result Accepted Refusal → Step
step_of c (Ok a) = accepted a
step_of c (Err r) = refused c (number r)
