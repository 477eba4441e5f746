-- Each arm knows the digit, and so which rows are left.
use Rattle.std.proofs.Common.{rules, ◌≡◌, bit_and}
use Rattle.p11_decode.proofs.Digits.{add_or_sub, by_digit, no_digit}
use Rattle.p11_decode.proofs.decoding.decode.Goals as goal

pub returns-in-4096 : goal.returns-in-4096
returns-in-4096 c = let left = by_digit _ _ c.in-4096.is in search rules

pub returns-in-8192 : goal.returns-in-8192
returns-in-8192 c = let left = by_digit _ _ c.in-8192.is in search rules

pub returns-in-12288 : goal.returns-in-12288
returns-in-12288 c = let left = by_digit _ _ c.in-12288.is in search rules

pub returns-in-16384 : goal.returns-in-16384
returns-in-16384 c = let left = by_digit _ _ c.in-16384.is in search rules

pub returns-in-20480 : goal.returns-in-20480
returns-in-20480 c = let left = by_digit _ _ c.in-20480.is in search rules

pub returns-in-24576 : goal.returns-in-24576
returns-in-24576 c = let left = add_or_sub _ c.in-24576.is in search rules

pub returns-in-28672 : goal.returns-in-28672
returns-in-28672 c = let left = by_digit _ _ c.in-28672.is in search rules

pub returns-in_default : goal.returns-in_default
returns-in_default c =
    let is_zero : bit_and c.args.word 0o070000 ≡ 0 = search (rules, no_digit) in
    let left = by_digit _ _ is_zero in
    search rules
