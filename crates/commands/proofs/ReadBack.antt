-- What is written reads back as itself.
use Rattle.std.proofs.Common.{◌≡◌, ℕ, ◌/◌, ◌%◌, ◌^◌, ◌<◌, ◌≤◌, Bool, true, false, eqb, refl, lit≤, ap, ◌∙◌, arith}
use Rattle.health.specs.Words.{bit}
use Rattle.commands.specs.Fields.{digit}
use Rattle.commands.specs.ControllerPoll.{poll_nmd0, poll_nmd1, poll_in}
use Rattle.commands.specs.declared.controller_poll.ControllerHealthPoll.{ControllerHealthPoll}

digit_le : (b : Bool) → digit b ≤ 1
digit_le true = lit≤ tt
digit_le false = lit≤ tt

-- a digit that was read is the bit that was written
digit_is : (b : Bool) → eqb (digit b) 1 ≡ b
digit_is true = refl
digit_is false = refl

-- the bit of a word that holds the digit of b
is_bit : (word k : ℕ) (b : Bool) → word / 2 ^ k % 2 ≡ digit b → bit word k ≡ b
is_bit word k b e = ap (λ d. eqb d 1) e ∙ digit_is b

pub poll_reads_back : (p : ControllerHealthPoll) → p.maxrent < 2 ^ 8 → p.sctlid < 2 ^ 16 → poll_in (poll_nmd0 p) (poll_nmd1 p) ≡ p
poll_reads_back p h k =
    let all = digit_le p.report_all in
    let vf = digit_le p.incvf in
    let pf = digit_le p.incpf in
    let f = digit_le p.incf in
    let clear = digit_le p.clear_changed_flags in
    let cwarn = digit_le p.selection.cwarn in
    let spare = digit_le p.selection.spare in
    let pdlu = digit_le p.selection.pdlu in
    let ctemp = digit_le p.selection.ctemp in
    let csts = digit_le p.selection.csts in
    let all_is = is_bit (poll_nmd0 p) 31 p.report_all (omega arith) in
    let vf_is = is_bit (poll_nmd0 p) 26 p.incvf (omega arith) in
    let pf_is = is_bit (poll_nmd0 p) 25 p.incpf (omega arith) in
    let f_is = is_bit (poll_nmd0 p) 24 p.incf (omega arith) in
    let maxrent_is : poll_nmd0 p / 2 ^ 16 % 2 ^ 8 ≡ p.maxrent = omega arith in
    let sctlid_is : poll_nmd0 p % 2 ^ 16 ≡ p.sctlid = omega arith in
    let clear_is = is_bit (poll_nmd1 p) 31 p.clear_changed_flags (omega arith) in
    let cwarn_is = is_bit (poll_nmd1 p) 4 p.selection.cwarn (omega arith) in
    let spare_is = is_bit (poll_nmd1 p) 3 p.selection.spare (omega arith) in
    let pdlu_is = is_bit (poll_nmd1 p) 2 p.selection.pdlu (omega arith) in
    let ctemp_is = is_bit (poll_nmd1 p) 1 p.selection.ctemp (omega arith) in
    let csts_is = is_bit (poll_nmd1 p) 0 p.selection.csts (omega arith) in
    λ i. record {
      report_all = all_is i;
      incvf = vf_is i;
      incpf = pf_is i;
      incf = f_is i;
      maxrent = maxrent_is i;
      sctlid = sctlid_is i;
      clear_changed_flags = clear_is i;
      selection = record { cwarn = cwarn_is i; spare = spare_is i; pdlu = pdlu_is i; ctemp = ctemp_is i; csts = csts_is i };
    }
