-- What each exported call returns: a reply as one number, the reply number in the low byte and the result above it (paper 01, "Reply
-- numbers"). What a call leaves in the sector is sector's to say, and what lines leave script's. Assumes nothing.
use Rattle.std.specs.Prelude.{List, ℕ, get_or, if◌then◌else◌}
use Rattle.laws.specs.Bytes.{pair}
use Rattle.sector.specs.declared.Address.{Address}
use Rattle.reply.specs.Reply.{Reply, refusal, answer}
use Rattle.sector.specs.declared.Subheader.{Subheader}
use Rattle.sector.specs.Address.{valid, next}
use Rattle.sector.specs.Calls.{Judged, seal_reply, open_reply, judge_answer, parity_reply}
use Rattle.sector.specs.Judge.{why}
use Rattle.script.specs.Bench.{Left, started}
use Rattle.script.specs.Feed.{fed_text}
use Rattle.script.specs.declared.lines.Fed.{Fed}

abbrev pub at : ℕ → ℕ → ℕ → Address
at minute second frame = record { minute = minute; second = second; frame = frame }

abbrev pub packed : ℕ → ℕ → ℕ
packed number result = pair number result

abbrev pub reply_word : Reply → ℕ
reply_word r = packed r.number r.result

-- the result of a judging is its four facts as the number why
abbrev pub judged_word : Judged → ℕ
judged_word j = packed j.number (why j.judgement)

-- a subheader that is lent as four bytes
abbrev pub subheader_in : List ℕ → Subheader
subheader_in b = record { file = get_or b 0 0; channel = get_or b 1 0; submode = get_or b 2 0; coding = get_or b 3 0 }

abbrev pub seal_word : List ℕ → Address → ℕ → Subheader → ℕ
seal_word s a k h = reply_word (seal_reply s a k h)

abbrev pub open_word : List ℕ → ℕ
open_word s = reply_word (open_reply s)

abbrev pub judge_word : List ℕ → Address → ℕ
judge_word s a = judged_word (judge_answer s a)

abbrev pub parity_word : List ℕ → ℕ
parity_word s = reply_word (parity_reply s)

-- an address as one number, a byte for each part: the frame in the lowest
abbrev pub address_number : Address → ℕ
address_number a = pair a.frame (pair a.second a.minute)

-- the address that follows (paper 01, "The ring"; paper 02, ask 5); 3 for one that is out of range
abbrev pub next_address_word : Address → ℕ
next_address_word a = reply_word (if valid a then answer (address_number (next a)) else refusal 3)

-- what lines leave, with the length of their answers as the result
abbrev pub with_size : Left Fed → Left ℕ
with_size f = record { result = f.result.size; memory = f.memory; sector = f.sector; out = f.out }

-- a run of the bench over a text, from its start
abbrev pub bench_run : List ℕ → List ℕ → List ℕ → List ℕ → Left ℕ
bench_run memory sector text out = with_size (fed_text started memory sector text out)
