-- Images that are made: of code words, and by a number.
use Rattle.std.specs.Prelude.{ℕ, ◌+◌, ◌*◌, ◌%◌, ◌^◌, nat_lt, if◌then◌else◌, List, [], ◌∷◌, map}
use Rattle.std.specs.List.{flat_map, range_with_len}
use Rattle.sls_base.specs.declared.rights.TheConstants.{REGION_RIGHTS}
use Rattle.boot_image.specs.declared.format.TheConstants.{ALL_CHANNELS}
use Rattle.boot_image.specs.Spelling.{word}
use Rattle.boot_image.specs.Values.{ProgramValue}

-- a program of code words, in pages from address 0 on with every right, with one thread that begins there, and all
-- channels
unfoldable pub code_program : ℕ → List ℕ → ProgramValue
code_program pages words = record {
  entry = 0;
  threads = 1;
  channels = ALL_CHANNELS;
  regions = record { base = 0; pages = pages; rights = REGION_RIGHTS; content = flat_map word words } ∷ [];
}

-- The image that is made by a number has 8 programs. Program p adds its step to a cell of its memory as often as it has
-- rounds, and stores each sum in one of 8 pages; then it puts the last sum on a channel and halts, or yields and halts.

-- 1 to 1,024
abbrev pub step_of : ℕ → ℕ → ℕ
step_of number p = 1 + (number + p) % 1024

-- 64 to 127
abbrev pub rounds_of : ℕ → ℕ → ℕ
rounds_of number p = 64 + number * (p + 1) % 64

-- an instruction with a number in its upper 12 bits
abbrev pub with_upper : ℕ → ℕ → ℕ
with_upper number low = number * 2 ^ 20 + low

-- The code of program p. Its last call is put where p is below 4, and else yield.
unfoldable pub made_words : ℕ → ℕ → List ℕ
made_words number p =
    with_upper (step_of number p) 0x293  -- addi x5, x0, step
    ∷ with_upper (rounds_of number p) 0x313  -- addi x6, x0, rounds
    ∷ 0x00001437  -- lui x8, 1
    ∷ 0x00042383  -- lw x7, 0(x8)
    ∷ 0x005383b3  -- add x7, x7, x5
    ∷ 0x00742023  -- sw x7, 0(x8)
    ∷ 0x00737493  -- andi x9, x6, 7
    ∷ 0x00c49493  -- slli x9, x9, 12
    ∷ 0x008484b3  -- add x9, x9, x8
    ∷ 0x0074a223  -- sw x7, 4(x9)
    ∷ 0xfff30313  -- addi x6, x6, -1
    ∷ 0xfe0310e3  -- bne x6, x0, -32
    ∷ with_upper (2 + p % 4) 0x513  -- addi x10, x0, 2 + p mod 4
    ∷ 0x00040593  -- addi x11, x8, 0
    ∷ 0x00400613  -- addi x12, x0, 4
    ∷ (if nat_lt p 4 then 0x00200893 else 0x00000893)  -- addi x17, x0, 2 or 0
    ∷ 0x00000073  -- ecall
    ∷ 0x00100893  -- addi x17, x0, 1
    ∷ 0x00000073 ∷ []  -- ecall

abbrev pub made_program : ℕ → ℕ → ProgramValue
made_program number p = code_program 16 (made_words number p)

abbrev pub made_programs : ℕ → List ProgramValue
made_programs number = map (made_program number) (range_with_len 0 8)
