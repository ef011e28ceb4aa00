-- A start keeps a controller consistent, and after it none is due; what a start leaves alone. Assumes nothing.
use Prim.Native.Nat.{ℕ, ◌+◌, ◌-◌, ◌*◌, ◌/◌, ◌%◌, ◌≤◌, min}
use mathlib.Core.Path.{◌≡◌, refl, sym, ap, ◌∙◌}
use mathlib.Core.Bool.{true, false, ◌&&◌, not}
use mathlib.Core.List.{List}
use mathlib.Core.Logic.{◌⊎◌, inl, inr, ⊎_elim}
use native.Mathlib.Omega.{arith}
use lib.Dec.{eqb}
use borrow.Author.Tests.{eqb-true, not-true}
use Rattle.std.specs.Prelude.{if◌then◌else◌}
use Rattle.laws.proofs.Choice.{if_case, if_false, right_false}
use Rattle.laws.proofs.Tests.{clash, and3, and4, or_false, if_not}
use Rattle.controller.specs.Fields.{◌▹◌, mbc≔, atint≔, atblo≔, atbhi≔, drq≔, bsy≔, hirq≔, transfer≔}
use Rattle.controller.specs.State.{initial}
use Rattle.controller.specs.Step.{Step, refused, done}
use Rattle.controller.specs.Transfer.{engaged, start_switches, limit, blocks_asked, start_blocks, blocks_lacking, byte_count, begun, started, start, settled}
use Rattle.controller.specs.declared.state.Controller.{Controller}
use Rattle.controller.proofs.Starts.{windowed, some, enough}
use Rattle.outcomes.specs.Book.{Book, book_of, k≔}
use Rattle.outcomes.specs.Invariant.{Consistent, Invariant}
use Rattle.outcomes.proofs.Consistent.{consistent_like, consistent_initial}

pub split_start :
    (P : Step → Type 0) (c : Controller)
    → (start_switches c ≡ false → P (refused c 5))
    → (start_switches c ≡ true → blocks_lacking c ≡ true → P (refused c 6))
    → (start_switches c ≡ true → blocks_lacking c ≡ false → P (done (started c)))
    → P (start c)
unfolding start
split_start P c p1 p2 p3 =
    if_not P _ _ _ p1 λ e1.
    if_case P _ _ _ (p2 e1) (p3 e1)

pub split_byte_count :
    (P : Controller → Type 0) (c : Controller)
    → (c.asctrl.stwcen ≡ false → P c)
    → (c.asctrl.stwcen ≡ true → P (c ▹ atblo≔ ((c.mbc + 1) * c.window.words * 2 % 256) ▹ atbhi≔ ((c.mbc + 1) * c.window.words * 2 / 256)))
    → P (byte_count c)
unfolding byte_count
split_byte_count P c p1 p2 = if_not P _ _ _ p1 p2

-- a start that follows, or none
pub split_settled :
    (P : Controller → Type 0) (c : Controller)
    → (engaged c ≡ false → start_switches c ≡ true → blocks_lacking c ≡ false → P (started c))
    → (settled c ≡ c → P c)
    → P (settled c)
unfolding settled
split_settled P c f g =
    let due = c.acctl.atten && not (eqb c.counts.ttc 0) && not (engaged c) in
    if_case (λ (x : Controller). (if due then (start c).controller else c) ≡ x → P x) due (start c).controller c
    (λ on.
    let free = not-true (engaged c) (and3 c.acctl.atten (not (eqb c.counts.ttc 0)) (not (engaged c)) on).2 in
    split_start (λ (s : Step). (if due then (start c).controller else c) ≡ s.controller → P s.controller) c
    (λ _. g) (λ _ _. g) (λ s b _. f free s b))
    (λ _. g)
    refl

-- A start has at most 32 blocks, and not more than TCC, nor than TTC where that is not 0.

limit_le : (c : Controller) → c.acctl.atlim ≤ 31 → limit c ≤ 32
limit_le c h = if_case (λ (n : ℕ). n ≤ 32) (eqb c.acctl.atlim 0) 32 c.acctl.atlim (λ _. omega arith) (λ _. omega arith)

asked_le : (c : Controller) → Consistent c → blocks_asked c ≤ 32
asked_le c h =
    if_case (λ (n : ℕ). n ≤ 32) (eqb c.counts.ttc 0) (c.mbc + 1) (min (limit c) (min c.counts.tcc c.counts.ttc))
    (λ _. omega (arith, h.mbc))
    (λ _. omega (arith, limit_le c h.atlim))

asked_total : (c : Controller) → (c.counts.ttc ≡ 0) ⊎ (blocks_asked c ≤ c.counts.ttc)
asked_total c =
    if_case (λ (n : ℕ). (c.counts.ttc ≡ 0) ⊎ (n ≤ c.counts.ttc)) (eqb c.counts.ttc 0) (c.mbc + 1) (min (limit c) (min c.counts.tcc c.counts.ttc))
    (λ e. inl (eqb-true _ _ e))
    (λ _. inr (omega arith))

-- MBC+1 blocks begin
consistent_begun :
    (c : Controller) → engaged c ≡ false → start_switches c ≡ true → c.mbc + 1 ≤ c.counts.tcc
    → (c.counts.ttc ≡ 0) ⊎ (c.mbc + 1 ≤ c.counts.ttc) → Consistent c → Consistent (begun c)
consistent_begun c q s tcc ttc h =
    let idle = or_false c.transfer.running c.packet.receiving q in
    let on = and4 c.acctl.acmen c.asctrl.adcen (not (eqb c.window.words 0)) c.atsta.bsy s in
    let m = h.mbc in
    record {
      ttc = h.ttc;
      mbc = h.mbc;
      atlim = h.atlim;
      received = h.received;
      expected = h.expected;
      window = h.window;
      packet = h.packet;
      buffered = h.buffered;
      held = h.held;
      decen = h.decen;
      running = λ _. record { some = omega arith; good = tcc; inside = windowed c s; acmen = on.0; adcen = on.1; drq = refl; bsy = refl; blocks = omega arith; total = ttc };
      idle = λ (e : true ≡ false). clash true e refl;
      receiving = λ e. clash c.packet.receiving idle.1 e;
      uncached = h.uncached;
    }

pub consistent_started : (c : Controller) → engaged c ≡ false → start_switches c ≡ true → blocks_lacking c ≡ false → Consistent c → Consistent (started c)
consistent_started c q s e h =
    let x = c ▹ mbc≔ (start_blocks c - 1) in
    let one = some c e in
    let hx : Consistent x = record {
      ttc = h.ttc;
      mbc = omega (arith, asked_le c h);
      atlim = h.atlim;
      received = h.received;
      expected = h.expected;
      window = h.window;
      packet = h.packet;
      buffered = h.buffered;
      held = h.held;
      decen = h.decen;
      running = λ r. clash c.transfer.running (or_false c.transfer.running c.packet.receiving q).0 r;
      idle = h.idle;
      receiving = h.receiving;
      uncached = h.uncached;
    } in
    let good : start_blocks c - 1 + 1 ≤ c.counts.tcc = omega (arith, enough c e) in
    let total = ⊎_elim {C = (c.counts.ttc ≡ 0) ⊎ (start_blocks c - 1 + 1 ≤ c.counts.ttc)} inl (λ h. inr (omega arith)) (asked_total c) in
    let b : Consistent (begun x) = consistent_begun x q s good total hx in
    split_byte_count (λ (y : Controller). Consistent (begun y)) x
    (λ _. b)
    (λ _. consistent_like (begun x) (begun (x ▹ atblo≔ ((x.mbc + 1) * x.window.words * 2 % 256) ▹ atbhi≔ ((x.mbc + 1) * x.window.words * 2 / 256))) refl b)

-- c without what a start may change
abbrev pub unstarted : Controller → Controller
unstarted c =
    c ▹ mbc≔ 0 ▹ atint≔ 0 ▹ atblo≔ 0 ▹ atbhi≔ 0 ▹ drq≔ false ▹ bsy≔ false ▹ hirq≔ false ▹ transfer≔ initial.transfer

pub started_same : (c : Controller) → unstarted (started c) ≡ unstarted c
started_same c =
    split_byte_count (λ (x : Controller). unstarted x ≡ unstarted c) (c ▹ mbc≔ (start_blocks c - 1)) (λ _. refl) (λ _. refl)

pub settled_same : (c : Controller) → unstarted (settled c) ≡ unstarted c
settled_same c = split_settled (λ (x : Controller). unstarted x ≡ unstarted c) c (λ _ _ _. started_same c) (λ _. refl)

-- a start begins at the window's first word, where a transfer that does not run stands, so that the book shows nothing of it
started_position : (c : Controller) → engaged c ≡ false → Consistent c → (started c).transfer.position ≡ c.transfer.position
started_position c q h = sym (h.idle (or_false c.transfer.running c.packet.receiving q).0).1

abbrev shown_at : ℕ → List (List ℕ) → Controller → Book
shown_at k row x = book_of x row ▹ k≔ k

pub started_book : (c : Controller) (row : List (List ℕ)) → engaged c ≡ false → Consistent c → book_of (started c) row ≡ book_of c row
started_book c row q h =
    ap (λ (x : Controller). shown_at (started c).transfer.position row x) (started_same c)
    ∙ ap (λ (k : ℕ). shown_at k row c) (started_position c q h)

pub settled_book : (c : Controller) (row : List (List ℕ)) → Consistent c → book_of (settled c) row ≡ book_of c row
settled_book c row h =
    split_settled (λ (x : Controller). book_of x row ≡ book_of c row) c (λ q _ _. started_book c row q h) (λ _. refl)

-- no start is due while one runs
undue : (c : Controller) → c.transfer.running ≡ true → settled c ≡ c
unfolding settled
undue c r =
    if_false (c.acctl.atten && not (eqb c.counts.ttc 0) && not (engaged c)) (start c).controller c
    (right_false (c.acctl.atten && not (eqb c.counts.ttc 0)) (not (engaged c)) (simp r))

pub invariant_settled : (d : Controller) → Consistent d → Invariant (settled d)
invariant_settled d h =
    split_settled Invariant d
    (λ q s e. record { consistent = consistent_started d q s e h; rested = undue (started d) refl })
    (λ e. record { consistent = h; rested = e })

pub invariant_initial : Invariant initial
unfolding settled
invariant_initial = record { consistent = consistent_initial; rested = refl }
