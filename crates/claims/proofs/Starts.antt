-- The table of starts holds: each row is one start, of the numbers that it gives. Assumes nothing.
use Prim.Native.Nat.{ℕ, ◌+◌, ◌-◌, ◌*◌, ◌/◌, ◌%◌, min}
use mathlib.Core.Path.{◌≡◌, refl, ap, ap₂, ◌∙◌}
use mathlib.Core.Bool.{Bool, true, false, ◌&&◌, ◌||◌, not}
use mathlib.Core.List.{List}
use mathlib.Core.Logic.{inl, inr}
use lib.Dec.{eqb, ltb}
use Rattle.std.specs.Prelude.{if◌then◌else◌}
use Rattle.laws.proofs.Choice.{if_true, if_false, left_false, right_false}
use Rattle.calls.specs.declared.Call.{Call as Plain}
use Rattle.calls.specs.declared.Call.TheVariants.{Write}
use Rattle.controller.specs.Step.{Step}
use Rattle.controller.specs.Calls.{stepped}
use Rattle.controller.specs.Fields.{◌▹◌, ttc≔}
use Rattle.controller.specs.Step as step
use Rattle.controller.specs.Transfer.{engaged, start_switches, most_blocks, start_blocks, blocks_lacking, byte_count, started, start, settled, concluded}
use Rattle.controller.specs.Write.{write, write_astrg, write_ttc}
use Rattle.controller.specs.declared.state.Controller.{Controller}
use Rattle.outcomes.specs.Machine.{plain}
use Rattle.chip.specs.Chip.{finished}
use Rattle.chip.specs.Told.{refused, Told}
use Rattle.chip.specs.Sound.{sound}
use Rattle.chip.specs.Calls.{called}
use Rattle.chip.specs.Machine.{over, chip_answer, chip_step}
use Rattle.chip.specs.declared.Chip.{Chip}
use Rattle.claims.specs.Cases.{afterwards, Asked, GivenStart, Leaves, Starts, with_ttc}
use Rattle.claims.specs.Starts.{Begins, with_mbc, Unready, Unbarred, StartsTable}

-- what a start finds in the controller
pub record Found (k : Controller) (a : Asked) : Type 0 where
  pub idle : k.transfer.running ≡ false
  pub unreceiving : k.packet.receiving ≡ false
  pub acmen : k.acctl.acmen ≡ true
  pub adcen : k.asctrl.adcen ≡ true
  pub bsy : k.atsta.bsy ≡ true
  pub tcc : k.counts.tcc ≡ a.tcc
  pub ttc : k.counts.ttc ≡ a.ttc
  pub mbc : k.mbc ≡ a.mbc
  pub atlim : k.acctl.atlim ≡ a.atlim
  pub words : k.window.words ≡ a.words
  pub stwcen : k.asctrl.stwcen ≡ a.stwcen

found : (c : Chip) (a : Asked) → GivenStart c a → Found c.controller a
found c a h =
    record {
      idle = h.idle;
      unreceiving = h.unreceiving;
      acmen = h.acmen;
      adcen = h.adcen;
      bsy = h.bsy;
      tcc = h.tcc;
      ttc = h.ttc;
      mbc = h.mbc;
      atlim = h.atlim;
      words = h.words;
      stwcen = h.stwcen;
    }

pub given : (c : Chip) (a : Asked) (k : Controller) → sound c ≡ true → c.controller ≡ k → Found k a → GivenStart c a
given c a k fine e f =
    record {
      sound_record = fine;
      idle = rw e f.idle;
      unreceiving = rw e f.unreceiving;
      acmen = rw e f.acmen;
      adcen = rw e f.adcen;
      bsy = rw e f.bsy;
      tcc = rw e f.tcc;
      ttc = rw e f.ttc;
      mbc = rw e f.mbc;
      atlim = rw e f.atlim;
      words = rw e f.words;
      stwcen = rw e f.stwcen;
    }

-- a running transfer lets no start follow
pub none_due : (k : Controller) → settled (started k) ≡ started k
unfolding settled
none_due k =
    let d = started k in
    let due = d.acctl.atten && not (eqb d.counts.ttc 0) in
    if_false (due && not (engaged d)) (start d).controller d (right_false due (not (engaged d)) refl)

-- the blocks that these numbers give, and whether there is a window and are good blocks for them
abbrev blocks_of : Asked → ℕ
blocks_of a =
    min (if eqb a.ttc 0 then a.mbc + 1 else min (if eqb a.atlim 0 then 32 else a.atlim) (min a.tcc a.ttc)) (most_blocks a.words)

abbrev lacking : Asked → Bool
lacking a = eqb (blocks_of a) 0 || ltb a.tcc (blocks_of a)

abbrev bytes_of : Asked → ℕ
bytes_of a = (blocks_of a - 1 + 1) * a.words * 2

module _ (k : Controller) (a : Asked) (h : Found k a) where
  same_blocks : start_blocks k ≡ blocks_of a
  same_blocks = simp (h.tcc, h.ttc, h.mbc, h.atlim, h.words)

  same_lacking : blocks_lacking k ≡ lacking a
  same_lacking = ap₂ (λ (n : ℕ) (t : ℕ). eqb n 0 || ltb t n) same_blocks h.tcc

  free : engaged k ≡ false
  free = simp (h.idle, h.unreceiving)

  switched : eqb a.words 0 ≡ false → start_switches k ≡ true
  switched some = simp (h.acmen, h.adcen, h.bsy, h.words, some)

  -- the start is done, or refused by 6
  accepted : eqb a.words 0 ≡ false → lacking a ≡ false → start k ≡ step.done (started k)
  unfolding start
  accepted some e = if_false _ _ _ (ap not (switched some)) ∙ if_false _ _ _ (same_lacking ∙ e)

  barred : eqb a.words 0 ≡ false → lacking a ≡ true → start k ≡ step.refused k 6
  unfolding start
  barred some e = if_false _ _ _ (ap not (switched some)) ∙ if_true _ _ _ (same_lacking ∙ e)

  -- what it leaves
  same_bytes : (start_blocks k - 1 + 1) * k.window.words * 2 ≡ bytes_of a
  same_bytes = ap₂ (λ (n : ℕ) (w : ℕ). (n - 1 + 1) * w * 2) same_blocks h.words

  marked : a.stwcen ≡ true
      → ((started k).mbc ≡ blocks_of a - 1) × ((started k).task.atbhi ≡ bytes_of a / 256) × ((started k).task.atblo ≡ bytes_of a % 256)
  unfolding byte_count
  marked on =
      let w = h.stwcen ∙ on in (
        simp w (ap (λ (n : ℕ). n - 1) same_blocks),
        simp w (ap (λ (n : ℕ). n / 256) same_bytes),
        simp w (ap (λ (n : ℕ). n % 256) same_bytes),
      )

  unmarked : a.stwcen ≡ false
      → ((started k).mbc ≡ blocks_of a - 1) × ((started k).task.atbhi ≡ k.task.atbhi) × ((started k).task.atblo ≡ k.task.atblo)
  unfolding byte_count
  unmarked off = let w = h.stwcen ∙ off in (simp w (ap (λ (n : ℕ). n - 1) same_blocks), simp w, simp w)

-- what a call leaves whose step is done
left_by : (c : Chip) (call : Plain) (d : Controller) → called c call ≡ finished c.place (step.done d) → {m high low : ℕ}
    → (d.mbc ≡ m) × (d.task.atbhi ≡ high) × (d.task.atblo ≡ low) → Leaves c call m high low
left_by c call d e l = (
  ap (λ (t : Told). t.reply.number) e,
  ap (λ (t : Told). t.chip.controller.mbc) e ∙ l.0,
  ap (λ (t : Told). t.chip.controller.task.atbhi) e ∙ l.1,
  ap (λ (t : Told). t.chip.controller.task.atblo) e ∙ l.2,
)

-- by 17h

module _ (c : Chip) (a : Asked) (h : GivenStart c a) (some : eqb a.words 0 ≡ false) where
  written : write c.controller 0x17 0x04 c.place.n ≡ start c.controller
  unfolding write write_astrg
  written = if_false _ _ _ (free c.controller a (found c a h))

  pub by_17h : lacking a ≡ false → called c (Write 0x17 0x04) ≡ finished c.place (step.done (started c.controller))
  unfolding called stepped concluded
  by_17h e =
      simp (h.sound_record, written ∙ accepted c.controller a (found c a h) some e)
      (ap (λ (k : Controller). finished c.place (step.done k)) (none_due c.controller))

  not_by_17h : lacking a ≡ true → called c (Write 0x17 0x04) ≡ refused c 6
  unfolding called stepped concluded
  not_by_17h e = simp (h.sound_record, written ∙ barred c.controller a (found c a h) some e)

  pub starts : a.stwcen ≡ true → lacking a ≡ false → Starts c (blocks_of a - 1) (bytes_of a / 256) (bytes_of a % 256)
  starts on e = left_by c (Write 0x17 0x04) (started c.controller) (by_17h e) (marked c.controller a (found c a h) on)

  starts_unmarked : a.stwcen ≡ false → lacking a ≡ false → Starts c (blocks_of a - 1) c.controller.task.atbhi c.controller.task.atblo
  starts_unmarked off e = left_by c (Write 0x17 0x04) (started c.controller) (by_17h e) (unmarked c.controller a (found c a h) off)

  starts_not : lacking a ≡ true → (called c (Write 0x17 0x04) ≡ refused c 6) × ((afterwards (called c (Write 0x17 0x04))).mbc ≡ a.mbc)
  starts_not e = (not_by_17h e, ap (λ (t : Told). t.chip.controller.mbc) (not_by_17h e) ∙ h.mbc)

  pub begins_by_17h : lacking a ≡ false → (ring : List ℕ) → Begins (plain (Write 0x17 0x04)) (over c ring)
  unfolding chip_answer chip_step
  begins_by_17h e ring =
      record {
        done = ap (λ (t : Told). t.reply.number) (by_17h e);
        runs = ap (λ (t : Told). t.chip.controller.transfer.running) (by_17h e);
        new = inl h.idle;
      }

-- where a need does not hold

unswitched : (c : Controller) → Unready c → start_switches c ≡ false
unswitched c (inl e) = simp e
unswitched c (inr (inl e)) = left_false (c.acctl.acmen && c.asctrl.adcen && not (eqb c.window.words 0)) c.atsta.bsy (left_false (c.acctl.acmen && c.asctrl.adcen) (not (eqb c.window.words 0)) (right_false c.acctl.acmen c.asctrl.adcen e))
unswitched c (inr (inr (inl e))) = left_false (c.acctl.acmen && c.asctrl.adcen && not (eqb c.window.words 0)) c.atsta.bsy (right_false (c.acctl.acmen && c.asctrl.adcen) (not (eqb c.window.words 0)) (simp e))
unswitched c (inr (inr (inr e))) = right_false (c.acctl.acmen && c.asctrl.adcen && not (eqb c.window.words 0)) c.atsta.bsy e

refused_5 : (c : Controller) → Unready c → start c ≡ step.refused c 5
unfolding start
refused_5 c h = if_true _ _ _ (ap not (unswitched c h))

needs_lacking : (c : Chip) → Unbarred c → Unready c.controller → called c (Write 0x17 0x04) ≡ refused c 5
unfolding called stepped concluded write write_astrg
needs_lacking c h n = simp (h.sound_record, h.idle, h.unreceiving, refused_5 c.controller n)

-- by itself, after TTC was written

module _ (c : Chip) (h : GivenStart c (with_mbc 40 31 1176 true 0)) (atten : c.controller.acctl.atten ≡ true) where
  abbrev counted_on : Controller
  counted_on = c.controller ▹ ttc≔ 40

  asked_by : Found counted_on (with_ttc 40 40 0 1176 true 31)
  asked_by =
      record {
        idle = h.idle;
        unreceiving = h.unreceiving;
        acmen = h.acmen;
        adcen = h.adcen;
        bsy = h.bsy;
        tcc = h.tcc;
        ttc = refl;
        mbc = h.mbc;
        atlim = h.atlim;
        words = h.words;
        stwcen = h.stwcen;
      }

  set : write c.controller 0x9F 40 c.place.n ≡ step.done counted_on
  unfolding write write_ttc
  set = simp (h.idle, h.acmen)

  follows : settled counted_on ≡ started counted_on
  unfolding settled
  follows =
      if_true (counted_on.acctl.atten && not (eqb 40 0) && not (engaged counted_on)) _ _ (simp (atten, h.idle, h.unreceiving))
      ∙ ap (λ (s : Step). s.controller) (accepted counted_on (with_ttc 40 40 0 1176 true 31) asked_by refl refl)

  itself : called c (Write 0x9F 40) ≡ finished c.place (step.done (started counted_on))
  unfolding called stepped concluded
  itself = simp (h.sound_record, set) (ap (λ (k : Controller). finished c.place (step.done k)) follows)

  by_itself : Leaves c (Write 0x9F 40) 26 0xF8 0x10
  by_itself = left_by c (Write 0x9F 40) (started counted_on) itself (marked counted_on (with_ttc 40 40 0 1176 true 31) asked_by refl)

  pub begins_by_itself : (ring : List ℕ) → Begins (plain (Write 0x9F 40)) (over c ring)
  unfolding chip_answer chip_step
  begins_by_itself ring =
      record {
        done = ap (λ (t : Told). t.reply.number) itself;
        runs = ap (λ (t : Told). t.chip.controller.transfer.running) itself;
        new = inl h.idle;
      }

pub table : StartsTable
table =
    record {
      twenty = λ c m h. starts c _ h refl refl refl;
      ttc_25 = λ c m h. starts c _ h refl refl refl;
      atlim_31 = λ c m h. starts c _ h refl refl refl;
      atlim_0 = λ c m h. starts c _ h refl refl refl;
      one_word = λ c m h. starts c _ h refl refl refl;
      ttc_1176 = λ c m h. starts c _ h refl refl refl;
      mbc_1024 = λ c l h. starts c _ h refl refl refl;
      mbc_1057 = λ c l h. starts c _ h refl refl refl;
      mbc_1176 = λ c l h. starts c _ h refl refl refl;
      mbc_1023 = λ c l h. starts c _ h refl refl refl;
      mbc_4 = λ c l h. starts c _ h refl refl refl;
      good_27 = λ c l h. starts c _ h refl refl refl;
      good_26 = λ c l h. starts_not c _ h refl refl;
      good_0 = λ c l h. not_by_17h c _ h refl refl;
      good_0_ttc = λ c m h. not_by_17h c _ h refl refl;
      unready = needs_lacking;
      without_stwcen = λ c l h. starts_unmarked c _ h refl refl refl;
      without_stwcen_ttc = λ c m h. starts_unmarked c _ h refl refl refl;
      by_itself = by_itself;
    }
