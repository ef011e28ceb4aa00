-- The eighteen forms of a line (paper 01, "Bench cases"; docs/DECISIONS.md, "Bench"), in ASCII, each run of decimal digits written as one `0`.
-- Assumes nothing.
use Rattle.std.specs.Prelude.{ℕ, List, [], ◌∷◌}

-- "call=open ring=0"
abbrev pub open_form : List ℕ
open_form = 99 ∷ 97 ∷ 108 ∷ 108 ∷ 61 ∷ 111 ∷ 112 ∷ 101 ∷ 110 ∷ 32 ∷ 114 ∷ 105 ∷ 110 ∷ 103 ∷ 61 ∷ 48 ∷ []

-- "call=read reg=0"
abbrev pub read_form : List ℕ
read_form = 99 ∷ 97 ∷ 108 ∷ 108 ∷ 61 ∷ 114 ∷ 101 ∷ 97 ∷ 100 ∷ 32 ∷ 114 ∷ 101 ∷ 103 ∷ 61 ∷ 48 ∷ []

-- "call=block number=0"
abbrev pub block_form : List ℕ
block_form = 99 ∷ 97 ∷ 108 ∷ 108 ∷ 61 ∷ 98 ∷ 108 ∷ 111 ∷ 99 ∷ 107 ∷ 32 ∷ 110 ∷ 117 ∷ 109 ∷ 98 ∷ 101 ∷ 114 ∷ 61 ∷ 48 ∷ []

-- "call=packet index=0"
abbrev pub packet_form : List ℕ
packet_form = 99 ∷ 97 ∷ 108 ∷ 108 ∷ 61 ∷ 112 ∷ 97 ∷ 99 ∷ 107 ∷ 101 ∷ 116 ∷ 32 ∷ 105 ∷ 110 ∷ 100 ∷ 101 ∷ 120 ∷ 61 ∷ 48 ∷ []

-- "call=command code=0"
abbrev pub command_form : List ℕ
command_form = 99 ∷ 97 ∷ 108 ∷ 108 ∷ 61 ∷ 99 ∷ 111 ∷ 109 ∷ 109 ∷ 97 ∷ 110 ∷ 100 ∷ 32 ∷ 99 ∷ 111 ∷ 100 ∷ 101 ∷ 61 ∷ 48 ∷ []

-- "call=send word=0"
abbrev pub send_form : List ℕ
send_form = 99 ∷ 97 ∷ 108 ∷ 108 ∷ 61 ∷ 115 ∷ 101 ∷ 110 ∷ 100 ∷ 32 ∷ 119 ∷ 111 ∷ 114 ∷ 100 ∷ 61 ∷ 48 ∷ []

-- "call=write reg=0 value=0"
abbrev pub write_form : List ℕ
write_form = 99 ∷ 97 ∷ 108 ∷ 108 ∷ 61 ∷ 119 ∷ 114 ∷ 105 ∷ 116 ∷ 101 ∷ 32 ∷ 114 ∷ 101 ∷ 103 ∷ 61 ∷ 48 ∷ 32 ∷ 118 ∷ 97 ∷ 108 ∷ 117 ∷ 101 ∷ 61 ∷ 48 ∷ []

-- "call=window offset=0 words=0"
abbrev pub window_form : List ℕ
window_form = 99 ∷ 97 ∷ 108 ∷ 108 ∷ 61 ∷ 119 ∷ 105 ∷ 110 ∷ 100 ∷ 111 ∷ 119 ∷ 32 ∷ 111 ∷ 102 ∷ 102 ∷ 115 ∷ 101 ∷ 116 ∷ 61 ∷ 48 ∷ 32 ∷ 119 ∷ 111 ∷ 114 ∷ 100 ∷ 115 ∷ 61 ∷ 48 ∷ []

-- "call=address min=0 sec=0 frame=0"
abbrev pub address_form : List ℕ
address_form = 99 ∷ 97 ∷ 108 ∷ 108 ∷ 61 ∷ 97 ∷ 100 ∷ 100 ∷ 114 ∷ 101 ∷ 115 ∷ 115 ∷ 32 ∷ 109 ∷ 105 ∷ 110 ∷ 61 ∷ 48 ∷ 32 ∷ 115 ∷ 101 ∷ 99 ∷ 61 ∷ 48 ∷ 32 ∷ 102 ∷ 114 ∷ 97 ∷ 109 ∷ 101 ∷ 61 ∷ 48 ∷ []

-- "call=sector min=0 sec=0 frame=0 fill=0"
abbrev pub sector_form : List ℕ
sector_form = 99 ∷ 97 ∷ 108 ∷ 108 ∷ 61 ∷ 115 ∷ 101 ∷ 99 ∷ 116 ∷ 111 ∷ 114 ∷ 32 ∷ 109 ∷ 105 ∷ 110 ∷ 61 ∷ 48 ∷ 32 ∷ 115 ∷ 101 ∷ 99 ∷ 61 ∷ 48 ∷ 32 ∷ 102 ∷ 114 ∷ 97 ∷ 109 ∷ 101 ∷ 61 ∷ 48 ∷ 32 ∷ 102 ∷ 105 ∷ 108 ∷ 108 ∷ 61 ∷ 48 ∷ []

-- "call=scratch from=0 count=0"
abbrev pub scratch_form : List ℕ
scratch_form = 99 ∷ 97 ∷ 108 ∷ 108 ∷ 61 ∷ 115 ∷ 99 ∷ 114 ∷ 97 ∷ 116 ∷ 99 ∷ 104 ∷ 32 ∷ 102 ∷ 114 ∷ 111 ∷ 109 ∷ 61 ∷ 48 ∷ 32 ∷ 99 ∷ 111 ∷ 117 ∷ 110 ∷ 116 ∷ 61 ∷ 48 ∷ []

-- "call=kind number=0"
abbrev pub kind_form : List ℕ
kind_form = 99 ∷ 97 ∷ 108 ∷ 108 ∷ 61 ∷ 107 ∷ 105 ∷ 110 ∷ 100 ∷ 32 ∷ 110 ∷ 117 ∷ 109 ∷ 98 ∷ 101 ∷ 114 ∷ 61 ∷ 48 ∷ []

-- "call=subheader file=0 channel=0 submode=0 coding=0"
abbrev pub subheader_form : List ℕ
subheader_form = 99 ∷ 97 ∷ 108 ∷ 108 ∷ 61 ∷ 115 ∷ 117 ∷ 98 ∷ 104 ∷ 101 ∷ 97 ∷ 100 ∷ 101 ∷ 114 ∷ 32 ∷ 102 ∷ 105 ∷ 108 ∷ 101 ∷ 61 ∷ 48 ∷ 32 ∷ 99 ∷ 104 ∷ 97 ∷ 110 ∷ 110 ∷ 101 ∷ 108 ∷ 61 ∷ 48 ∷ 32 ∷ 115 ∷ 117 ∷ 98 ∷ 109 ∷ 111 ∷ 100 ∷ 101 ∷ 61 ∷ 48 ∷ 32 ∷ 99 ∷ 111 ∷ 100 ∷ 105 ∷ 110 ∷ 103 ∷ 61 ∷ 48 ∷ []

-- "call=reset"
abbrev pub reset_form : List ℕ
reset_form = 99 ∷ 97 ∷ 108 ∷ 108 ∷ 61 ∷ 114 ∷ 101 ∷ 115 ∷ 101 ∷ 116 ∷ []

-- "call=look"
abbrev pub look_form : List ℕ
look_form = 99 ∷ 97 ∷ 108 ∷ 108 ∷ 61 ∷ 108 ∷ 111 ∷ 111 ∷ 107 ∷ []

-- "call=word"
abbrev pub word_form : List ℕ
word_form = 99 ∷ 97 ∷ 108 ∷ 108 ∷ 61 ∷ 119 ∷ 111 ∷ 114 ∷ 100 ∷ []

-- "call=status"
abbrev pub status_form : List ℕ
status_form = 99 ∷ 97 ∷ 108 ∷ 108 ∷ 61 ∷ 115 ∷ 116 ∷ 97 ∷ 116 ∷ 117 ∷ 115 ∷ []

-- "call=srst"
abbrev pub srst_form : List ℕ
srst_form = 99 ∷ 97 ∷ 108 ∷ 108 ∷ 61 ∷ 115 ∷ 114 ∷ 115 ∷ 116 ∷ []
