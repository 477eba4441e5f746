use Rattle.p11_lines.proofs.Pieces.{puts_then, puts_front, puts_failed}
use Rattle.p11_lines.proofs.devices.put_devices.Goals as goal

pub returns-in_err-put_clock : goal.returns-in_err-put_clock
returns-in_err-put_clock g c = puts_failed c.from_residual.ensures.0 (puts_front _ (puts_front _ (puts_front _ (puts_front _ (puts_front _ c.in_err-put_clock.ensures)))))

pub returns-in_err-put_line : goal.returns-in_err-put_line
returns-in_err-put_line g c = puts_failed c.from_residual-in_err-put_line.ensures.0 (puts_front _ (puts_front _ (puts_front _ (puts_front _ (puts_then c.in_ok-put_clock.ensures c.in_err-put_line.ensures)))))

pub returns-in_err-put_disk : goal.returns-in_err-put_disk
returns-in_err-put_disk g c = puts_failed c.from_residual-in_err-put_disk.ensures.0 (puts_front _ (puts_front _ (puts_front _ (puts_then (puts_then c.in_ok-put_clock.ensures c.in_ok-put_line.ensures) c.in_err-put_disk.ensures))))

pub returns-in_err-put_drives : goal.returns-in_err-put_drives
returns-in_err-put_drives g c = puts_failed c.from_residual-in_err-put_drives.ensures.0 (puts_front _ (puts_front _ (puts_then (puts_then (puts_then c.in_ok-put_clock.ensures c.in_ok-put_line.ensures) c.in_ok-put_disk.ensures) c.in_err-put_drives.ensures)))

pub returns-in_err-put_management : goal.returns-in_err-put_management
returns-in_err-put_management g c = puts_failed c.from_residual-in_err-put_management.ensures.0 (puts_front _ (puts_then (puts_then (puts_then (puts_then c.in_ok-put_clock.ensures c.in_ok-put_line.ensures) c.in_ok-put_disk.ensures) c.in_ok-put_drives.ensures) c.in_err-put_management.ensures))

pub returns : goal.returns
returns g c = puts_then (puts_then (puts_then (puts_then (puts_then c.in_ok-put_clock.ensures c.in_ok-put_line.ensures) c.in_ok-put_disk.ensures) c.in_ok-put_drives.ensures) c.in_ok-put_management.ensures) c.put_requests.ensures
