use Rattle.mib_keys.proofs.kept.set_of.Goals as goal

pub returns : goal.returns
returns c = λ i. record {
  pcf = c.contains.ensures.value i;
  pid = c.contains-2.ensures.value i;
  pic = c.contains-3.ensures.value i;
  tpcf = c.contains-4.ensures.value i;
  plf = c.contains-5.ensures.value i;
  vpd = c.contains-6.ensures.value i;
  cur = c.contains-7.ensures.value i;
  caf = c.contains-8.ensures.value i;
  cap = c.contains-9.ensures.value i;
  txf = c.contains-10.ensures.value i;
  txp = c.contains-11.ensures.value i;
  mcf = c.contains-12.ensures.value i;
  lgf = c.contains-13.ensures.value i;
  ocf = c.contains-14.ensures.value i;
  ocp = c.contains-15.ensures.value i;
}
