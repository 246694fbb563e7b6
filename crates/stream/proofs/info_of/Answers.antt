-- Each field is its bytes as a number; one byte is that number itself.
use native.Mathlib.Omega.{arith}
use Rattle.stream.proofs.Cookie.{byte_at}
use Rattle.stream.proofs.info_of.Goals as goal

pub returns : goal.returns
returns c =
    let s = c.args.cookie.now in
    rw
    (byte_at s 4 (omega arith), byte_at s 5 (omega arith), byte_at s 6 (omega arith), byte_at s 7 (omega arith), byte_at s 8 (omega arith), byte_at s 9 (omega arith), c.read_be_u32.ensures, c.read_be_u16.ensures, c.read_be_u32-2.ensures, c.read_be_u32-3.ensures, c.read_be_u32-4.ensures)
