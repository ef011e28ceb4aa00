-- After every start, by 17h or by itself, the byte count is as claimed: a call's step begins a transfer, or its end does. Assumes nothing.
use Prim.Native.Nat.{ℕ, ◌+◌}
use mathlib.Core.Path.{◌≡◌, refl, sym, ap, ◌∙◌}
use mathlib.Core.Bool.{Bool, true, false, ◌&&◌}
use mathlib.Core.List.{List}
use mathlib.Core.Logic.{◌⊎◌, ⊎_elim}
use native.Mathlib.Omega.{arith}
use lib.Dec.{eqb, ltb}
use borrow.Author.Tests.{eqb-false, le-ltb}
use Rattle.laws.proofs.Choice.{if_case}
use Rattle.laws.proofs.Tests.{clash, if_not}
use Rattle.calls.specs.declared.Call.{Call as Plain}
use Rattle.sector.specs.Judge.{good}
use Rattle.sector.specs.declared.Judgement.{Judgement}
use Rattle.controller.specs.Step.{Step}
use Rattle.controller.specs.Calls.{stepped}
use Rattle.controller.specs.Decoder.{counted}
use Rattle.controller.specs.Fields.{◌▹◌, running≔}
use Rattle.controller.specs.Host.{block_taken, host_word}
use Rattle.controller.specs.Transfer.{concluded}
use Rattle.controller.specs.declared.state.Controller.{Controller}
use Rattle.ring.specs.Place.{ring_facts}
use Rattle.outcomes.specs.Machine.{Call, plain, sector, look, word, number}
use Rattle.outcomes.proofs.Starts.{split_settled}
use Rattle.chip.specs.Calls.{called, sector_number, sector_told, word_told, received_by}
use Rattle.chip.specs.Told as told
use Rattle.chip.specs.Chip.{ring_fits, finished}
use Rattle.chip.specs.Machine.{State, of_told, of_word, chip_answer, chip_step}
use Rattle.chip.specs.Sound.{sound}
use Rattle.chip.specs.Told.{Told, WordTold}
use Rattle.claims.specs.Starts.{Last, Begins, Begun, ByteCountClaim}
use Rattle.claims.proofs.Begun.{started_begun}
use Rattle.claims.proofs.Kept.{ends, keeps, word_given}

abbrev runs : Controller → Type 0
runs c = c.transfer.running ≡ true

-- the end of a call: what runs after it was begun by its step, or by the start that follows
concluded_begun : (r : Step) → (runs r.controller → Begun r.controller) → runs (concluded r).controller → Begun (concluded r).controller
unfolding concluded
concluded_begun r f =
    if_case (λ (s : Step). runs s.controller → Begun s.controller) (eqb r.reply.number 0) _ _
    (λ _. split_settled (λ (x : Controller). runs x → Begun x) r.controller (λ _ s b _. started_begun r.controller s b) (λ _. f))
    (λ _. f)

-- a step in which nothing runs that did not run before, where nothing did
fresh : {A : Type 0} (c : Controller) → c.transfer.running ≡ false → (c.transfer.running ≡ true) ⊎ A → A
fresh c idle e = ⊎_elim (λ run. clash c.transfer.running idle run) (λ a. a) e

-- the word that ends a transfer leaves none running
last_ends : (c : Controller) → Last word c → (host_word c).controller.transfer.running ≡ false
unfolding host_word
last_ends c l =
    let p = l.1 in
    let one = l.0 in
    if_not (λ (s : Step). s.controller.transfer.running ≡ false) c.transfer.running _ _ (λ off. off) λ _.
    if_case (λ (s : Step). s.controller.transfer.running ≡ false) (ltb (c.transfer.position + 1) c.window.words) _ _
    (λ e. clash _ (le-ltb (c.transfer.position + 1) c.window.words (omega arith)) e) λ _.
    if_case (λ (s : Step). s.controller.transfer.running ≡ false) (ltb 1 c.transfer.left) _ _
    (λ e. clash _ (le-ltb 1 c.transfer.left (omega arith)) e) λ _.
    ap (λ (k : Bool × Bool). k.1) (ends (block_taken c ▹ running≔ false))

-- a sector leaves a transfer as it is
counted_running : (c : Controller) (j : Judgement) → (counted c j).controller.transfer.running ≡ c.transfer.running
unfolding counted
counted_running c j = if_case (λ (s : Step). s.controller.transfer.running ≡ c.transfer.running) (good j) _ _ (λ _. refl) (λ _. refl)

-- Call by call

one_none : ◌≡◌ {A = ℕ} 1 0 → ⊥
one_none e = omega arith

by_plain : (p : Plain) (s : State) → number (of_told (called s.chip p)) ≡ 0 → s.chip.controller.transfer.running ≡ false
    → runs (called s.chip p).chip.controller → Begun (called s.chip p).chip.controller
unfolding called
by_plain p s done idle =
    let c = s.chip.controller in
    if_case (λ (t : Told). t.reply.number ≡ 0 → runs t.chip.controller → Begun t.chip.controller) (sound s.chip)
    (finished s.chip.place (concluded (stepped c p (ring_facts s.chip.place)))) (told.refused s.chip 1)
    (λ _ _. concluded_begun (stepped c p (ring_facts s.chip.place)) (λ r. fresh c idle ((keeps c p (ring_facts s.chip.place)).begins r)))
    (λ _ e. absurd (one_none e))
    done

by_sector : (x : List ℕ) (s : State) → number (of_told (sector_told s.chip s.ring x)) ≡ 0 → s.chip.controller.transfer.running ≡ false
    → runs (sector_told s.chip s.ring x).chip.controller → Begun (sector_told s.chip s.ring x).chip.controller
unfolding sector_told
by_sector x s done idle =
    let c = s.chip.controller in
    let k = sector_number s.chip s.ring x in
    if_case (λ (t : Told). t.reply.number ≡ 0 → runs t.chip.controller → Begun t.chip.controller) (eqb k 0) _ _
    (λ _ _. concluded_begun (counted c (received_by s.chip x).judgement) (λ r. clash c.transfer.running idle (sym (counted_running c (received_by s.chip x).judgement) ∙ r)))
    (λ e z. absurd (eqb-false k 0 e z))
    done

by_word : (s : State) → number (of_word (word_told s.chip s.ring).word) ≡ 0
    → (s.chip.controller.transfer.running ≡ false) ⊎ Last word s.chip.controller
    → runs (word_told s.chip s.ring).chip.controller → Begun (word_told s.chip s.ring).chip.controller
unfolding word_told
by_word s done new =
    let c = s.chip.controller in
    if_case (λ (t : WordTold). number (of_word t.word) ≡ 0 → runs t.chip.controller → Begun t.chip.controller) (sound s.chip && ring_fits s.chip s.ring) _ _
    (λ _ _. concluded_begun (host_word c) (λ r.
    ⊎_elim (λ idle. fresh c idle ((word_given c false).begins r)) (λ l. clash (host_word c).controller.transfer.running (last_ends c l) r) new))
    (λ _ e. absurd (one_none e))
    done

by_call : (call : Call) (s : State) → Begins call s → Begun (chip_step call s).chip.controller
unfolding chip_answer chip_step
by_call (plain p) s h = by_plain p s h.done (⊎_elim (λ e. e) (λ f. absurd f) h.new) h.runs
by_call (sector x) s h = by_sector x s h.done (⊎_elim (λ e. e) (λ f. absurd f) h.new) h.runs
by_call look s h = ⊎_elim (λ idle. clash s.chip.controller.transfer.running idle h.runs) (λ f. absurd f) h.new
by_call word s h = by_word s h.done h.new h.runs

pub byte_count_holds : ByteCountClaim
byte_count_holds = record { counted = by_call }
