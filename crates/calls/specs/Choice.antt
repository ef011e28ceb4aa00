-- A choice by one kind of call, with a value for all others, so that a definition names only the calls that it is about. Assumes nothing.
use Rattle.std.specs.Prelude.{ℕ}
use Rattle.calls.specs.declared.Call.{Call}
use Rattle.calls.specs.declared.Call.TheVariants.{Write, Read, SetBlock, SetWindow, SetExpected, PacketByte, Reset, Command, PacketWord, Status, Srst}

-- a register's write, by register and value
abbrev pub if_write : {A : Type 0} → Call → (ℕ → ℕ → A) → A → A
if_write (Write reg v) f d = f reg v
if_write (Read reg) f d = d
if_write (SetBlock t) f d = d
if_write (SetWindow o w) f d = d
if_write (SetExpected a) f d = d
if_write (PacketByte i) f d = d
if_write Reset f d = d
if_write (Command v) f d = d
if_write (PacketWord w) f d = d
if_write Status f d = d
if_write Srst f d = d

-- a register's read, by register
abbrev pub if_read : {A : Type 0} → Call → (ℕ → A) → A → A
if_read (Read reg) f d = f reg
if_read (Write reg v) f d = d
if_read (SetBlock t) f d = d
if_read (SetWindow o w) f d = d
if_read (SetExpected a) f d = d
if_read (PacketByte i) f d = d
if_read Reset f d = d
if_read (Command v) f d = d
if_read (PacketWord w) f d = d
if_read Status f d = d
if_read Srst f d = d

-- set T
abbrev pub if_set_block : {A : Type 0} → Call → A → A → A
if_set_block (SetBlock t) x d = x
if_set_block (Write reg v) x d = d
if_set_block (Read reg) x d = d
if_set_block (SetWindow o w) x d = d
if_set_block (SetExpected a) x d = d
if_set_block (PacketByte i) x d = d
if_set_block Reset x d = d
if_set_block (Command v) x d = d
if_set_block (PacketWord w) x d = d
if_set_block Status x d = d
if_set_block Srst x d = d

-- chip reset
abbrev pub if_reset : {A : Type 0} → Call → A → A → A
if_reset Reset x d = x
if_reset (Write reg v) x d = d
if_reset (Read reg) x d = d
if_reset (SetBlock t) x d = d
if_reset (SetWindow o w) x d = d
if_reset (SetExpected a) x d = d
if_reset (PacketByte i) x d = d
if_reset (Command v) x d = d
if_reset (PacketWord w) x d = d
if_reset Status x d = d
if_reset Srst x d = d

-- SRST
abbrev pub if_srst : {A : Type 0} → Call → A → A → A
if_srst Srst x d = x
if_srst (Write reg v) x d = d
if_srst (Read reg) x d = d
if_srst (SetBlock t) x d = d
if_srst (SetWindow o w) x d = d
if_srst (SetExpected a) x d = d
if_srst (PacketByte i) x d = d
if_srst Reset x d = d
if_srst (Command v) x d = d
if_srst (PacketWord w) x d = d
if_srst Status x d = d
