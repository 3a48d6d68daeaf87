use Rattle.std.proofs.Common.{◌≡◌, arith}
use Rattle.sls_kernel.proofs.Bytes.{word_1, word_2, word_4}
use Rattle.sls_kernel.proofs.page.with_number.Goals as goal

pub returns-then-size-eq1 : goal.returns-then-size-eq1
returns-then-size-eq1 c j h =
    let a = c.args in
    let size : a.size ≡ 1 = omega arith in
    rw size (word_1 a.word a.k a.value c.to_le_bytes-bytes.result c.to_le_bytes-number.result c.to_le_bytes-bytes.ensures c.to_le_bytes-number.ensures _ (omega arith) c.from_le_bytes.ensures j)

pub returns-then-size-eq2 : goal.returns-then-size-eq2
returns-then-size-eq2 c j h =
    let a = c.args in
    let size : a.size ≡ 2 = omega arith in
    rw size (word_2 a.word a.k a.value c.to_le_bytes-bytes.result c.to_le_bytes-number.result c.to_le_bytes-bytes.ensures c.to_le_bytes-number.ensures _ (omega arith) c.from_le_bytes-then-size-eq2.ensures j)

pub returns : goal.returns
returns c j h =
    let a = c.args in
    let size : a.size ≡ 4 = grind arith in
    rw size (word_4 a.word a.k a.value c.to_le_bytes-bytes.result c.to_le_bytes-number.result c.to_le_bytes-bytes.ensures c.to_le_bytes-number.ensures _ (omega arith) c.from_le_bytes-2.ensures j)
