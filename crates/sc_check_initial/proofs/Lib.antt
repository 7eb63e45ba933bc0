mod Placeless
