-- Where frames and words stand among the banks of the memory.
use Rattle.std.proofs.Common.{◌≡◌, ℕ, ◌+◌, ◌<◌, ◌≤◌, IsTrue, arith, ◌∙◌}
use Rattle.std.proofs.lemmas.Bool.Decides.{nat_tests}
use Rattle.sls_base.specs.declared.limits.TheConstants.{TABLE_WORDS, FRAME_WORDS, FRAMES, WORDS}
use Rattle.pmem_model.specs.Places.{bank_of, offset_of, bank_size, bank_start}
use Rattle.pmem_model.specs.Memory.{Memory, AllHome, SameHomes, is_at_home, is_frame_home, frame_begin}
use Rattle.pmem_model.specs.PlaceLaws.{home_of}
use Rattle.sls_kernel.specs.Words.{frame_place}

pub frame_bank : (frame i : ℕ) → i < FRAME_WORDS → bank_of (frame_place frame + i) ≡ 1 + frame
unfolding bank_of
frame_bank frame i h = grind (arith, nat_tests)

pub frame_offset : (frame i : ℕ) → i < FRAME_WORDS → offset_of (frame_place frame + i) ≡ i
unfolding offset_of
frame_offset frame i h = grind (arith, nat_tests)

pub frame_room : (frame i count : ℕ) → 0 < count → i + count ≤ FRAME_WORDS → offset_of (frame_place frame + i) + count ≤ bank_size (bank_of (frame_place frame + i))
unfolding bank_of offset_of bank_size
frame_room frame i count some h = grind (arith, nat_tests)

pub frame_room_whole : (frame : ℕ) → offset_of (frame_place frame) + 512 ≤ bank_size (bank_of (frame_place frame))
unfolding bank_of offset_of bank_size
frame_room_whole frame = grind (arith, nat_tests)

pub table_room : (at count : ℕ) → at < TABLE_WORDS → at + count ≤ TABLE_WORDS → offset_of at + count ≤ bank_size (bank_of at)
unfolding bank_of offset_of bank_size
table_room at count h fits = grind (arith, nat_tests)

pub frame_begins : (frame : ℕ) → frame_begin frame ≡ frame_place frame
unfolding bank_start
frame_begins frame = grind (arith, nat_tests)

-- with all frames at home, each word and each frame is
pub home_word : (m : Memory) (at : ℕ) → AllHome m → at < WORDS → IsTrue (is_at_home m at)
home_word m at home h = home_of m at home h

pub home_frame : (m : Memory) (frame : ℕ) → AllHome m → frame < FRAMES → IsTrue (is_frame_home m frame)
home_frame m frame home h = home (1 + frame) (omega arith)

pub still_home : (m n : Memory) → SameHomes m n → AllHome m → AllHome n
still_home m n same home = λ k h. same k ∙ home k h

pub ruleset places = (frame_room, frame_room_whole, table_room, frame_begins, home_word, home_frame, still_home)
